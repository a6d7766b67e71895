-- The owners and the labels entry by entry are those of the state, and what they say of the walk. Assumes nothing.
use mathlib.Core.Path.{◌≡◌, refl, sym, ap, ap₂, ◌∙◌, fun_ext}
use mathlib.Core.Logic.{inl, inr}
use mathlib.Core.Bool.{Bool, true, false}
use mathlib.Core.List.{List}
use mathlib.Core.Option.{none, some}
use Prim.Native.Nat.{ℕ, ◌+◌, ◌*◌, ◌/◌, ◌%◌, ◌^◌, ◌≤◌, ◌<◌}
use native.Mathlib.Nat.{mod-lt, zero-lt-suc}
use native.Mathlib.Decide.{dec_lt}
use native.Mathlib.Numerals.{add-one}
use native.Mathlib.Omega.{arith}
use lib.Dec.{ltb, eqb}
use lib.ListN.{length, get_or, get_or-eq_default}
use lib.Seq.{ext_get_or}
use borrow.Author.Tests.{ltb-true, lt-ltb, le-ltb, ne_eqb}
use Rattle.meaning.specs.Search.{pick}
use Rattle.meaning.specs.Hall.{zeroes, stage, State, empty, fresh, source_of, end_of}
use Rattle.meaning.specs.Rule.{live, link_of}
use Rattle.meaning.specs.Winner.{rule_at, winner, link_for, next_at}
use Rattle.meaning.specs.Labels.{names, is_on, labels_of}
use Rattle.meaning.specs.Working.{owner_word, owner_at, place_with, owners_of}
use Rattle.meaning.specs.Records.{SetUp}
use Rattle.meaning.specs.Step.{planned, with_plan}
use Rattle.meaning.specs.Box.{Held}
use Rattle.meaning.specs.Tables.{Holds, Sound}
use Rattle.meaning.specs.Run.{start}
use Rattle.meaning.specs.Changes.{no_link}
use Rattle.meaning.proofs.sound.Kept.{sound}
use Rattle.meaning.proofs.atoms.Labels.{labels_idle, owners_idle, labels_length, labels_word, labels_on, on_place}
use Rattle.meaning.proofs.atoms.Constant.{same_next}
use Rattle.meaning.proofs.base.Search.{tab_length, tab_at}
use Rattle.meaning.proofs.sound.Winner.{Winner, fit, wins}
use Rattle.meaning.proofs.atoms.Numbers.{has_place, place_with_lem, place_without, on_without}
use Rattle.lent.proofs.LabelWords.{same_words}
use Rattle.lent.specs.Owners.{owner_in, via, via_link, next_in, end_in, Words, Owned, Agrees, Starts, Whole}

-- ---- the owners

owners_length : (m : State) → length (owners_of m) ≡ 8192
unfolding owners_of
owners_length m = tab_length 8192 0 _

owners_at : (m : State) (k v : ℕ) → k < 512 → v < 16 → owner_in (owners_of m) k v ≡ owner_at m v (place_with m k)
unfolding owners_of
owners_at m k v hk hv =
    let i = 16 * k + v in
    let a : (0 + i) % 16 ≡ v = omega arith in
    let b : (0 + i) / 16 ≡ k = omega arith in
    tab_at 8192 0 _ i (omega arith) ∙ ap₂ (λ (x y : ℕ). owner_at m x (place_with m y)) a b

module _ (m : State) (S : Sound m) where
  owned_of : Owned m (owners_of m)
  unfolding owner_at
  owned_of = record {
    long = owners_length m;
    right = λ p v hp hv.
        owners_at m (get_or m.atoms.number p 0) v (omega (arith, S.numbers.small p hp, S.cuts.room)) hv
        ∙ ap (owner_at m v) (place_with_lem m S.numbers p hp);
    rest = λ k v hm hk hv. owners_at m k v hk hv ∙ ap (owner_at m v) (place_without m S.numbers k hm);
  }

  -- two tables of the state's owners agree at each atom
  owned_at : (a b : List ℕ) → Owned m a → Owned m b → (k v : ℕ) → k < 512 → v < 16 → owner_in a k v ≡ owner_in b k v
  owned_at a b A B k v hk hv = go (dec_lt k m.atoms.count)
    where
      go : Dec (k < m.atoms.count) → owner_in a k v ≡ owner_in b k v
      go (yes h) =
          let r = has_place S.numbers k h in
          sym (ap (λ (x : ℕ). owner_in a x v) r.2) ∙ A.right r.0 v r.1 hv
          ∙ sym (B.right r.0 v r.1 hv) ∙ ap (λ (x : ℕ). owner_in b x v) r.2
      go (no h) = A.rest k v (omega arith) hk hv ∙ sym (B.rest k v (omega arith) hk hv)

  owned_once : (a b : List ℕ) → Owned m a → Owned m b → a ≡ b
  owned_once a b A B =
      ext_get_or 0 a b (A.long ∙ sym B.long) (λ i h.
      let e : 16 * (i / 16) + i % 16 ≡ i = omega arith in
      sym (ap (λ (x : ℕ). get_or a x 0) e)
      ∙ owned_at a b A B (i / 16) (i % 16) (omega (arith, A.long)) (omega arith)
      ∙ ap (λ (x : ℕ). get_or b x 0) e)

-- THE LAW: entry by entry the owners of the state are just its owners
pub owners_are : (m : State) (owner : List ℕ) → Sound m → Owned m owner → owner ≡ owners_of m
owners_are m owner S O = owned_once m S owner (owners_of m) O (owned_of m S)

pub owned_by : (m : State) (owner : List ℕ) → Sound m → owner ≡ owners_of m → Owned m owner
owned_by m owner S e = rw e (owned_of m S)

-- ---- what an owner says

pub link_small : (width w : ℕ) → link_of width w < 64
unfolding link_of
link_small width w = mod-lt (w / 2 ^ width) (zero-lt-suc 63)

pub via_named : (e : ℕ) → (e ≡ 0 → ⊥) → via e ≡ e / 512 % 64
unfolding via
via_named e n = rw (ne_eqb e 0 n)

pub via_word : (l w : ℕ) → l < 64 → w < 256 → via (l * 512 + (w + 1)) ≡ l
via_word l w hl hw = via_named (l * 512 + (w + 1)) (λ e. omega arith) ∙ omega arith

-- the word e is that of a live rule at node v
pub record Won (m : State) (v e : ℕ) : Type 0 where
  pub rule : ℕ
  pub within : rule < 256
  pub alive : live (rule_at m rule) ≡ true
  pub here : source_of m (link_of m.width (rule_at m rule)) ≡ v
  pub word : e ≡ link_of m.width (rule_at m rule) * 512 + (rule + 1)

module _ (m : State) (v e : ℕ) (W : Won m v e) where
  pub via_won : via e ≡ link_of m.width (rule_at m W.rule)
  via_won = ap via W.word ∙ via_word (link_of m.width (rule_at m W.rule)) W.rule (link_small m.width (rule_at m W.rule)) W.within

module _ (m : State) (S : Sound m) where
  pub won_at : (v a : ℕ) → (owner_word m (winner m v a) ≡ 0 → ⊥) → Won m v (owner_word m (winner m v a))
  unfolding owner_word
  won_at v a n = go (wins m S v a) (ltb (winner m v a) 256) refl n
    where
      w : ℕ
      w = winner m v a

      go : Winner m v a w → (t : Bool) → ltb w 256 ≡ t → (pick t (link_of m.width (rule_at m w) * 512 + (w + 1)) 0 ≡ 0 → ⊥) → Won m v (pick t (link_of m.width (rule_at m w) * 512 + (w + 1)) 0)
      go x false q n = absurd (n refl)
      go (inl x) true q n = absurd (omega (arith, x.0, ltb-true w 256 q))
      go (inr x) true q n =
          let f = fit m S v a w x.fits in
          record { rule = w; within = x.within; alive = f.alive; here = f.here; word = refl }

  pub won : (owner : List ℕ) → Owned m owner → (k v : ℕ) → k < 512 → v < 16 → (owner_in owner k v ≡ 0 → ⊥) → Won m v (owner_in owner k v)
  won owner O k v hk hv n = go (dec_lt k m.atoms.count)
    where
      go : Dec (k < m.atoms.count) → Won m v (owner_in owner k v)
      go (no h) = absurd (n (O.rest k v (omega arith) hk hv))
      go (yes h) =
          let r = has_place S.numbers k h in
          let e : owner_in owner k v ≡ owner_word m (winner m v (get_or m.atoms.cut r.0 0)) = sym (ap (λ (x : ℕ). owner_in owner x v) r.2) ∙ O.right r.0 v r.1 hv in
          rw e (won_at v (get_or m.atoms.cut r.0 0) (λ z. n (e ∙ z)))

pub starts : (m : State) (label owner : List ℕ) → Whole m label owner → Starts m.plan.link owner
unfolding source_of
starts m label owner W = record {
  here = λ k v hk hv n.
      let o = won m W.sound owner W.owned k v hk hv n in
      ap (λ (l : ℕ). get_or m.plan.link l 0 / 1024) (via_won m v _ o) ∙ o.here;
}

-- ---- the labels

pub via_none : via 0 ≡ no_link
unfolding via
via_none = refl

-- no owner names no link
pub unnamed : (l : ℕ) → l < 64 → eqb (via 0) l ≡ false
unnamed l h = ap (λ (x : ℕ). eqb x l) via_none ∙ ne_eqb no_link l (λ q. omega arith)

-- a winner names a link just where its word as an owner does
names_via : (m : State) (w l : ℕ) → l < 64 → names (link_for m w) l ≡ eqb (via (owner_word m w)) l
unfolding names link_for owner_word
names_via m w l hl = go (ltb w 256) refl
  where
    go : (t : Bool) → ltb w 256 ≡ t → names (pick t (some (link_of m.width (rule_at m w))) none) l ≡ eqb (via (pick t (link_of m.width (rule_at m w) * 512 + (w + 1)) 0)) l
    go true e = ap (λ (x : ℕ). eqb x l) (sym (via_word (link_of m.width (rule_at m w)) w (link_small m.width (rule_at m w)) (ltb-true w 256 e)))
    go false e = sym (unnamed l hl)

module _ (m : State) (S : Sound m) where
  -- every link's source is a node, and 0 for a link that is not declared
  pub source_small : (l : ℕ) → source_of m l < 16
  unfolding source_of
  source_small l = go (dec_lt l m.plan.links)
    where
      go : Dec (l < m.plan.links) → source_of m l < 16
      go (yes h) = omega (arith, S.laid.sources l h, S.laid.small)
      go (no h) = omega (arith, S.laid.unused l (omega arith))

  -- THE LAW: an atom is on a link just where its owner at the link's source names the link
  on_owner : (owner : List ℕ) → Owned m owner → (l k : ℕ) → l < 64 → k < 512 → is_on m l k ≡ eqb (via (owner_in owner k (source_of m l))) l
  unfolding next_at
  on_owner owner O l k hl hk = go (dec_lt k m.atoms.count)
    where
      v : ℕ
      v = source_of m l

      at : (p : ℕ) → p < m.atoms.count → is_on m l (get_or m.atoms.number p 0) ≡ eqb (via (owner_in owner (get_or m.atoms.number p 0) v)) l
      at p hp =
          on_place m S.numbers l p hp ∙ names_via m (winner m v (get_or m.atoms.cut p 0)) l hl
          ∙ ap (λ (x : ℕ). eqb (via x) l) (sym (O.right p v hp (source_small l)))

      go : Dec (k < m.atoms.count) → is_on m l k ≡ eqb (via (owner_in owner k v)) l
      go (yes h) = let r = has_place S.numbers k h in rw r.2 at (at r.0 r.1)
      go (no h) =
          on_without m S.numbers l k (omega arith)
          ∙ sym (ap (λ (x : ℕ). eqb (via x) l) (O.rest k v (omega arith) hk (source_small l)) ∙ unnamed l hl)

labels_words : (m : State) → Words (labels_of m)
labels_words m = record { size = labels_length m; word = λ i. go i (dec_lt i 512) }
  where
    go : (i : ℕ) → Dec (i < 512) → get_or (labels_of m) i 0 < 2 ^ 64
    go i (yes h) = labels_word m i h
    go i (no h) = omega (arith, get_or-eq_default (labels_of m) 0 {n = i} (omega (arith, labels_length m)))

-- THE LAW: words that agree with the owners are the labels
pub labels_are : (m : State) (label owner : List ℕ) → Whole m label owner → Words label → label ≡ labels_of m
unfolding source_of
labels_are m label owner W words =
    same_words label (labels_of m) words (labels_words m) (λ l k hl hk.
    W.agrees.bits l k hl hk ∙ sym (on_owner m W.sound owner W.owned l k hl hk) ∙ sym (labels_on m l k hl hk))

pub agrees_by : (m : State) (label owner : List ℕ) → Sound m → Owned m owner → label ≡ labels_of m → Agrees m.plan.link label owner
unfolding source_of
agrees_by m label owner S O e = rw e (record { bits = λ l k hl hk. labels_on m l k hl hk ∙ on_owner m S owner O l k hl hk })

-- THE LAW: a box that came from a fresh one by records is in order
pub held_whole : (m : State) (label owner : List ℕ) → Held m label owner → Whole m label owner
held_whole m label owner H =
    let S = sound m H.came in
    let O = owned_by m owner S H.owners in
    record { sound = S; owned = O; agrees = agrees_by m label owner S O H.labels }

-- ---- the walk by the tables

via_link_lem : (m : State) (w : ℕ) → via_link (owner_word m w) ≡ link_for m w
unfolding via_link owner_word link_for
via_link_lem m w = go (ltb w 256) refl
  where
    go : (t : Bool) → ltb w 256 ≡ t → via_link (pick t (link_of m.width (rule_at m w) * 512 + (w + 1)) 0) ≡ pick t (some (link_of m.width (rule_at m w))) none
    go true e =
        let l = link_of m.width (rule_at m w) in
        let h = link_small m.width (rule_at m w) in
        let k = ltb-true w 256 e in
        let q : (l * 512 + (w + 1)) / 512 % 64 ≡ l = omega arith in
        rw (ne_eqb (l * 512 + (w + 1)) 0 (λ z. omega arith), q)
    go false e = refl

-- no rule stands past the nodes
next_past : (m : State) → Sound m → (a v : ℕ) → 16 ≤ v → next_at m a v ≡ none
unfolding next_at link_for
next_past m S a v h = go (wins m S v a)
  where
    w : ℕ
    w = winner m v a

    go : Winner m v a w → pick (ltb (winner m v a) 256) (some (link_of m.width (rule_at m (winner m v a)))) none ≡ none
    go (inl x) = rw x.0
    go (inr x) = absurd (omega (arith, (fit m S v a w x.fits).here, source_small m S (link_of m.width (rule_at m w))))

module _ (m : State) (label owner : List ℕ) (W : Whole m label owner) where
  -- THE LAW: at an atom the owners lead where the winners do
  pub next_is : (a p : ℕ) → Holds m.atoms.cut m.atoms.count a p → next_in owner (get_or m.atoms.number p 0) ≡ next_at m a
  unfolding next_in
  next_is a p H = fun_ext (λ v. go v (dec_lt v 16)) ∙ sym (same_next m W.sound.cuts W.sound.aligned p a H.within H.from (rw add-one at H.below))
    where
      go : (v : ℕ) → Dec (v < 16) → next_in owner (get_or m.atoms.number p 0) v ≡ next_at m (get_or m.atoms.cut p 0) v
      go v (yes h) = rw (lt-ltb v 16 h, W.owned.right p v H.within h) (unfold next_at in via_link_lem m (winner m v (get_or m.atoms.cut p 0)))
      go v (no h) = rw (le-ltb v 16 (omega arith)) (sym (next_past m W.sound (get_or m.atoms.cut p 0) v (omega arith)))

  -- an owner names a link, and the link ends at a node of the hall where it ends at a node
  pub ends_in : (k v : ℕ) → k < 512 → v < 16 → (owner_in owner k v ≡ 0 → ⊥)
      → (via (owner_in owner k v) < 64) × (end_in m.plan.link (via (owner_in owner k v)) < 256 → end_in m.plan.link (via (owner_in owner k v)) < m.plan.nodes)
  unfolding end_in end_of
  ends_in k v hk hv n =
      let o = won m W.sound owner W.owned k v hk hv n in
      let h = W.sound.named o.rule o.within o.alive in
      rw (via_won m v (owner_in owner k v) o) (link_small m.width (rule_at m o.rule), W.sound.laid.ends (link_of m.width (rule_at m o.rule)) h)

pub end_is : (m : State) → end_in m.plan.link ≡ end_of m
unfolding end_in end_of
end_is m = refl

-- an owner's number is that of a rule, counted from 1
pub owner_numbered : (m : State) (owner : List ℕ) → Sound m → Owned m owner → (k v : ℕ) → k < 512 → v < 16 → (owner_in owner k v ≡ 0 → ⊥)
    → (0 < owner_in owner k v % 512) × (owner_in owner k v % 512 ≤ 256)
owner_numbered m owner S O k v hk hv n =
    let o = won m S owner O k v hk hv n in
    let h = o.within in
    let e = o.word in
    (omega arith, omega arith)

-- ---- records that change no rule

pub fresh_owners : owners_of fresh ≡ zeroes 8192
fresh_owners = owners_idle fresh ((sound fresh start).idle (unfold empty in omega arith))

pub fresh_labels : labels_of fresh ≡ zeroes 512
fresh_labels = labels_idle fresh ((sound fresh start).idle (unfold empty in omega arith))

-- before the close no rule is live, and a set-up record leaves the rules as they are
module _ (m : State) (u : SetUp) (S : Sound m) (h : stage m.plan.phase < 2) where
  abbrev set : State
  set = with_plan m (planned m.plan u)

  idle_still : (i : ℕ) → live (rule_at set i) ≡ false
  unfolding rule_at
  idle_still = S.idle h

  pub labels_still : labels_of set ≡ labels_of m
  labels_still = labels_idle set idle_still ∙ sym (labels_idle m (S.idle h))

  pub owners_still : owners_of set ≡ owners_of m
  owners_still = owners_idle set idle_still ∙ sym (owners_idle m (S.idle h))
