-- What a sweep leaves after the word of one rule has changed: the owners and the labels are those of the new state, and the list is its list.
-- And that the sweeps' new owners are the new winners. Assumes nothing.
use mathlib.Core.Path.{◌≡◌, refl, sym, ap, ap₂, ◌∙◌}
use mathlib.Core.Logic.{inl, inr}
use mathlib.Core.Bool.{Bool, true, false, not}
use mathlib.Core.List.{List, [], ◌∷◌, ◌++◌}
use Prim.Native.Nat.{ℕ, zero, suc, ◌+◌, ◌-◌, ◌*◌, ◌/◌, ◌%◌, ◌≤◌, ◌<◌}
use native.Mathlib.Decide.{ℕ_discrete, dec_lt}
use native.Mathlib.Omega.{arith}
use lib.Dec.{ltb, eqb}
use lib.ListN.{length, get_or, set}
use borrow.Author.Tests.{ltb-true, ltb-false, lt-ltb, le-ltb, eq-eqb, ne_eqb}
use Rattle.meaning.specs.Search.{pick}
use Rattle.meaning.specs.Hall.{State, source_of}
use Rattle.meaning.specs.Rule.{link_of, rank, covers}
use Rattle.meaning.specs.Winner.{better, rule_at, node_for, eligible, winner, link_for, next_at}
use Rattle.meaning.specs.Working.{owner_word}
use Rattle.meaning.specs.Changes.{link_or_none, changed_at, entry_at, entries_at, overwrite}
use Rattle.meaning.specs.Step.{with_rule, listed, list_room}
use Rattle.meaning.specs.Tables.{Sound}
use Rattle.lent.specs.Owners.{owner_in, via, Owned, Whole, Listed, Numbered}
use Rattle.meaning.proofs.rules.Covers.{SameRules}
use Rattle.meaning.proofs.rules.Ranks.{take_first, take_higher, keep_lower}
use Rattle.lent.proofs.Labelled.{starts, owner_numbered}
use Rattle.meaning.proofs.atoms.ChangeList.{entries_length, list_to, list_none, list_more, list_still, same_places, same_entries}
use Rattle.meaning.proofs.sound.OneRule.{Joined, winner_le, never, stays, joined, owner_alike}
use Rattle.lent.proofs.OwnerRules.{Differ, Spans, differ_in, differ_out, in_span, node_small, owner_once, via_owner, owner_source}
use Rattle.tables.specs.Gathered.{Gathers, best_in}
use Rattle.tables.specs.Sweep.{Ready, SweptAll, SweptBy, entries_from, owner_by, owner_for, raised, heir_of}
use Rattle.tables.proofs.Rules.{covers_between, best_gathered}

-- ---- the tables after a sweep

module _ (m : State) (r w v f t : ℕ) (label owner : List ℕ) (W : Whole m label owner) (S' : Sound (with_rule m r w))
    (D : Differ m (with_rule m r w) m.atoms.cut m.atoms.count v f t) (h : ℕ → ℕ)
    (new : (q : ℕ) → f ≤ q → q < t → h q ≡ owner_word (with_rule m r w) (winner (with_rule m r w) v (get_or m.atoms.cut q 0))) where
  abbrev m' : State
  m' = with_rule m r w

  abbrev g : ℕ → ℕ
  g = owner_by owner m.atoms.number v

  -- an owner that the sweep leaves is right
  left : (u q : ℕ) → u < 16 → q < m.atoms.count → ((u ≡ v) × (f ≤ q) × (q < t) → ⊥)
      → owner_in owner (get_or m.atoms.number q 0) u ≡ owner_word m' (winner m' u (get_or m.atoms.cut q 0))
  left u q hu hq d = W.owned.right q u hq hu ∙ D.alike u (get_or m.atoms.cut q 0) (D.still u q hq d)

  module _ {label' owner' list list' : List ℕ} {count : ℕ} (s : SweptAll m.atoms.cut m.atoms.number m.atoms.count v f t g h label label' owner owner' list list' count) where
    right : (u q : ℕ) → u < 16 → q < m.atoms.count → owner_in owner' (get_or m.atoms.number q 0) u ≡ owner_word m' (winner m' u (get_or m.atoms.cut q 0))
    right u q hu hq = go (ℕ_discrete u v) (dec_lt q f) (dec_lt q t)
      where
        small : get_or m.atoms.number q 0 < 512
        small = omega (arith, W.sound.numbers.small q hq, W.sound.cuts.room)

        go : Dec (u ≡ v) → Dec (q < f) → Dec (q < t) → owner_in owner' (get_or m.atoms.number q 0) u ≡ owner_word m' (winner m' u (get_or m.atoms.cut q 0))
        go (no d) a b = s.owners.nodes (get_or m.atoms.number q 0) u small hu d ∙ left u q hu hq (λ x. d x.0)
        go (yes d) (yes a) b = rw d (s.owners.places q hq (inl a) ∙ left v q (rw d at hu) hq (λ x. omega (arith, x.1)))
        go (yes d) (no a) (no b) = rw d (s.owners.places q hq (inr (omega arith)) ∙ left v q (rw d at hu) hq (λ x. omega (arith, x.2)))
        go (yes d) (no a) (yes b) = rw d (s.owners.done q (omega arith) b ∙ new q (omega arith) b)

    owned : Owned (with_rule m r w) owner'
    owned = record {
      long = s.owners.long ∙ W.owned.long;
      right = unfold with_rule in λ q u hq hu. right u q hu hq;
      rest = unfold with_rule in λ k u a b hu. rest k u a b hu (ℕ_discrete u v);
    }
      where
        rest : (k u : ℕ) → m.atoms.count ≤ k → k < 512 → u < 16 → Dec (u ≡ v) → owner_in owner' k u ≡ 0
        rest k u a b hu (no d) = s.owners.nodes k u b hu d ∙ W.owned.rest k u a b hu
        rest k u a b hu (yes d) = rw d (s.owners.past k a b ∙ W.owned.rest k v a b (rw d at hu))

    whole : Whole (with_rule m r w) label' owner'
    whole = record {
      sound = S';
      owned = owned;
      agrees = unfold with_rule in s.labels m.plan.link W.agrees (starts m label owner W) source;
    }
      where
        source : (q : ℕ) → f ≤ q → q < t → (h q ≡ 0 → ⊥) → get_or m.plan.link (via (h q)) 0 / 1024 ≡ v
        source q a b n =
            let e = new q a b in
            ap (λ (x : ℕ). get_or m.plan.link (via x) 0 / 1024) e
            ∙ (unfold with_rule source_of in owner_source m' S' v (get_or m.atoms.cut q 0) (λ z. n (e ∙ z)))

  -- where the winner stays nothing is listed
  unchanged : (q : ℕ) → q < m.atoms.count → ((f ≤ q) × (q < t) → ⊥) → changed_at m m' v q ≡ false
  unfolding changed_at with_rule
  unchanged q hq d = ap not (eq-eqb _ _ (D.still v q hq (λ x. d (x.1, x.2))))

  -- a place of the sweep has an entry just where the winner changes
  entry : (q : ℕ) → f ≤ q → q < t
      → pick (eqb (g q) (h q)) [] (get_or m.atoms.number q 0 ∷ get_or m.atoms.cut q 0 ∷ get_or m.atoms.cut (q + 1) 0 ∷ via (g q) ∷ via (h q) ∷ [])
      ≡ pick (changed_at m m' v q) (entry_at m m' v q) []
  unfolding changed_at entry_at next_at with_rule
  entry q a b = go (ℕ_discrete (winner m v x) (winner m' v x))
    where
      x : ℕ
      x = get_or m.atoms.cut q 0

      old : g q ≡ owner_word m (winner m v x)
      old = W.owned.right q v (omega arith) D.node

      go : Dec (winner m v x ≡ winner m' v x) → pick (eqb (g q) (h q)) [] (get_or m.atoms.number q 0 ∷ x ∷ get_or m.atoms.cut (q + 1) 0 ∷ via (g q) ∷ via (h q) ∷ [])
          ≡ pick (not (eqb (winner m v x) (winner m' v x))) (get_or m.atoms.number q 0 ∷ x ∷ get_or m.atoms.cut (q + 1) 0 ∷ link_or_none (link_for m (winner m v x)) ∷ link_or_none (link_for m' (winner m' v x)) ∷ []) []
      go (yes e) = rw (eq-eqb (g q) (h q) (old ∙ D.alike v x e ∙ sym (new q a b)), eq-eqb (winner m v x) (winner m' v x) e)
      go (no d) =
          rw (
            ne_eqb (g q) (h q) (λ e. d (owner_once m m' (winner m v x) (winner m' v x) (winner_le m W.sound v x) (winner_le m' S' v x) (sym old ∙ e ∙ new q a b))),
            ne_eqb (winner m v x) (winner m' v x) d,
            old,
            new q a b,
            via_owner m (winner m v x),
            via_owner m' (winner m' v x),
          )

  upto : (d : ℕ) → f + d ≤ t → entries_from g h m.atoms.cut m.atoms.number f d ≡ list_to m m' v (f + d)
  unfolding entries_from
  upto zero l =
      let e : 0 + f ≡ f + 0 = omega arith in
      sym (list_still m m' v 0 f (λ q a b. unchanged q (omega arith) (λ x. omega (arith, x.0))) ∙ list_none m m' v) ∙ ap (list_to m m' v) e
  upto (suc d) l =
      let e : suc (f + d) ≡ f + suc d = omega arith in
      ap₂ (λ (x y : List ℕ). x ++ y) (upto d (omega arith)) (entry (f + d) (omega arith) (omega arith))
      ∙ sym (list_more m m' v (f + d)) ∙ ap (list_to m m' v) e

  list_is : entries_from g h m.atoms.cut m.atoms.number f (t - f) ≡ entries_at m m' v (listed m m' v)
  unfolding listed with_rule
  list_is =
      let e : t + (m.atoms.count - t) ≡ m.atoms.count = omega arith in
      upto (t - f) (omega arith)
      ∙ ap (list_to m m' v) (omega arith)
      ∙ sym (list_still m m' v t (m.atoms.count - t) (λ q a b. unchanged q (omega arith) (λ x. omega (arith, x.1))))
      ∙ ap (list_to m m' v) e

  -- THE LAW: a sweep leaves the box in order and lists the changes. A state o before with the same rules and links gives the same list
  pub updated : {label' owner' list list' : List ℕ} {count : ℕ} (o : State) → SameRules o m
      → SweptAll m.atoms.cut m.atoms.number m.atoms.count v f t g h label label' owner owner' list list' count
      → Listed o (with_rule m r w) v label' owner' list list' count
  unfolding listed
  updated {list = list} {count = count} o same s =
      let places : listed o m' v ≡ listed m m' v = same_places o m m' same v m'.atoms.count in
      record {
        whole = whole s;
        written = s.words.words
            ∙ ap (λ (l : List ℕ). overwrite l list) (list_is ∙ sym (ap (entries_at o m' v) places ∙ same_entries o m m' same v (listed m m' v)));
        count = omega (arith, s.words.count, ap length list_is, entries_length m m' v (listed m m' v), ap length places);
      }

-- ---- the new owners are the new winners

raised_none : (width : ℕ) (rule : List ℕ) (mine k e : ℕ) → e ≡ 0 → raised width rule mine k e ≡ mine
unfolding raised
raised_none width rule mine k e h = rw (eq-eqb e 0 h)

raised_some : (width : ℕ) (rule : List ℕ) (mine k e x : ℕ) → 0 < e → e % 512 - 1 ≡ x → raised width rule mine k e ≡ pick (ltb (rank width (get_or rule x 0)) k) mine e
unfolding raised
raised_some width rule mine k e x h q = rw (ne_eqb e 0 (λ z. omega arith), q)

owner_some : (m : State) (x : ℕ) → x < 256 → owner_word m x ≡ link_of m.width (rule_at m x) * 512 + (x + 1)
unfolding owner_word
owner_some m x h = rw (lt-ltb x 256 h)

owner_none : (m : State) (x : ℕ) → 256 ≤ x → owner_word m x ≡ 0
unfolding owner_word
owner_none m x h = rw (le-ltb x 256 h)

module _ (m n : State) (r z v : ℕ) (J : Joined m n r z v) (a mine : ℕ) (is : mine ≡ link_of n.width z * 512 + (r + 1)) where
  mine_is : mine ≡ owner_word n r
  mine_is = is ∙ sym (owner_some n r J.slot ∙ ap (λ (x : ℕ). link_of n.width x * 512 + (r + 1)) J.word)

  eligible_r : covers n.width z a ≡ true → eligible n v a r ≡ true
  unfolding eligible
  eligible_r e = rw (J.word, J.alive, eq-eqb (node_for n z) v J.node, e)

  -- an insert: the winner with r is the one of higher rank
  pub raised_is : covers n.width z a ≡ true → raised m.width m.rule mine (rank n.width z) (owner_word m (winner m v a)) ≡ owner_word n (winner n v a)
  raised_is c = go (dec_lt x 256)
    where
      x : ℕ
      x = winner m v a

      E : ℕ → Bool
      E = eligible n v a

      R : ℕ → ℕ
      R i = rank n.width (rule_at n i)

      same : R x ≡ rank m.width (rule_at m x)
      same = rw (J.others x (never m n r z v J v a), J.width)

      take : r ≡ better E R x r → mine ≡ owner_word n (winner n v a)
      take e = mine_is ∙ ap (owner_word n) (e ∙ sym (joined m n r z v J v a))

      keep : x ≡ better E R x r → owner_word m x ≡ owner_word n (winner n v a)
      keep e = owner_alike m n r z v J v a (e ∙ sym (joined m n r z v J v a))

      by : (b : Bool) → ltb (rank m.width (rule_at m x)) (rank n.width z) ≡ b → x < 256 → pick b mine (owner_word m x) ≡ owner_word n (winner n v a)
      by true q h = take (take_higher E R x r (eligible_r c) (λ d. omega arith) (omega (arith, same, ap (rank n.width) J.word, ltb-true (rank m.width (rule_at m x)) (rank n.width z) q)))
      by false q h = keep (keep_lower E R x r (eligible_r c) (λ d. omega arith) (omega (arith, same, ap (rank n.width) J.word, ltb-false (rank m.width (rule_at m x)) (rank n.width z) q)))

      go : Dec (x < 256) → raised m.width m.rule mine (rank n.width z) (owner_word m x) ≡ owner_word n (winner n v a)
      go (yes h) = raised_some m.width m.rule mine (rank n.width z) (owner_word m x) x (omega (arith, owner_some m x h)) (omega (arith, owner_some m x h)) ∙ (unfold rule_at in by (ltb (rank m.width (rule_at m x)) (rank n.width z)) refl h)
      go (no h) =
          raised_none m.width m.rule mine (rank n.width z) (owner_word m x) (owner_none m x (omega arith))
          ∙ take (take_first E R x r (eligible_r c) (omega (arith, winner_le m J.less v a)))

  -- a remove: where r won, the best of the others wins
  pub heir_is : (among : List ℕ) (count : ℕ) → best_in (λ k. covers m.width (get_or m.rule k 0) a) (λ k. rank m.width (get_or m.rule k 0)) among count ≡ winner m v a
      → heir_of m.width m.rule among count mine a (owner_word n (winner n v a)) ≡ owner_word m (winner m v a)
  unfolding heir_of owner_for rule_at
  heir_is among count best = go (ℕ_discrete (winner n v a) r)
    where
      y : ℕ
      y = winner n v a

      go : Dec (y ≡ r) → pick (eqb (owner_word n y) mine) (owner_for m.width m.rule (best_in (λ k. covers m.width (get_or m.rule k 0) a) (λ k. rank m.width (get_or m.rule k 0)) among count)) (owner_word n y) ≡ owner_word m (winner m v a)
      go (yes e) = rw (eq-eqb (owner_word n y) mine (ap (owner_word n) e ∙ sym mine_is), best) (unfold owner_word in refl)
      go (no d) =
          rw (ne_eqb (owner_word n y) mine (λ e. d (owner_once n n y r (winner_le n J.more v a) (omega (arith, J.slot)) (e ∙ mine_is))))
          (sym (owner_alike m n r z v J v a (stays m n r z v J v a d)))

-- ---- an insert and a remove, over the places that the rule covers

pub listed_as : {m n n' : State} {v v' : ℕ} {label owner list list' : List ℕ} {count : ℕ} → n ≡ n' → v ≡ v'
    → Listed m n v label owner list list' count → Listed m n' v' label owner list list' count
listed_as e f l = rw (← e, ← f) l

pub numbered : (m : State) (label owner : List ℕ) → Whole m label owner → Numbered owner
numbered m label owner W = record {
  from = λ k v hk hv n. (owner_numbered m owner W.sound W.owned k v hk hv n).0;
  upto = λ k v hk hv. go k v hk hv (ℕ_discrete (owner_in owner k v) 0);
}
  where
    go : (k v : ℕ) → k < 512 → v < 16 → Dec (owner_in owner k v ≡ 0) → owner_in owner k v % 512 ≤ 256
    go k v hk hv (yes e) = omega arith
    go k v hk hv (no n) = (owner_numbered m owner W.sound W.owned k v hk hv n).1

module _ {m : State} {label owner list : List ℕ} {v f t z : ℕ} where
  pub ready : Whole m label owner → v < 16 → Spans m.width m.atoms.cut m.atoms.count z f t → list_room ≤ length list → Ready m.atoms.number owner list m.atoms.count v f t
  ready W hv P room = record {
    numbers = W.sound.numbers;
    few = W.sound.cuts.room;
    order = P.order;
    within = P.within;
    node = hv;
    size = W.owned.long;
    room = room;
  }

-- a place's owner at a node holds a rule's number, counted from 1
pub numbered_at : {m : State} {label owner : List ℕ} {v f t z : ℕ} → Whole m label owner → v < 16 → Spans m.width m.atoms.cut m.atoms.count z f t → (q : ℕ) → q < t
    → (owner_by owner m.atoms.number v q ≡ 0 → ⊥) → (0 < owner_by owner m.atoms.number v q % 512) × (owner_by owner m.atoms.number v q % 512 ≤ 256)
numbered_at {m} {label} {owner} {v} W hv P q b =
    let k : get_or m.atoms.number q 0 < 512 = omega (arith, W.sound.numbers.small q (omega (arith, P.within)), W.sound.cuts.room) in
    let n = numbered m label owner W in
    λ z. (n.from (get_or m.atoms.number q 0) v k hv z, n.upto (get_or m.atoms.number q 0) v k hv)

module _ (m : State) (r z v f t : ℕ) {label owner : List ℕ} (W : Whole m label owner) (P : Spans m.width m.atoms.cut m.atoms.count z f t) (mine : ℕ) (is : mine ≡ link_of m.width z * 512 + (r + 1)) where
  abbrev old : ℕ → ℕ
  old = owner_by owner m.atoms.number v

  old_is : v < 16 → (q : ℕ) → q < t → old q ≡ owner_word m (winner m v (get_or m.atoms.cut q 0))
  old_is hv q b = W.owned.right q v (omega (arith, P.within)) hv

  module _ {A : ℕ → ℕ → Type 0} {label' owner' list list' : List ℕ} {count : ℕ} (s : SweptBy A m.atoms.cut m.atoms.number m.atoms.count v f t old label label' owner owner' list list' count) where
    -- THE LAW of an insert; o is the state before its boundaries were made
    pub taken_in : Joined m (with_rule m r z) r z v → (o : State) → SameRules o m → (k : ℕ) → k ≡ rank m.width z
        → ((q e : ℕ) → f ≤ q → q < t → A q e → e ≡ raised m.width m.rule mine k (old q))
        → Listed o (with_rule m r z) v label' owner' list list' count
    unfolding with_rule
    taken_in J o same k e is_raised = updated m r z v f t label owner W J.more (differ_in J W.sound.cuts P) s.after (λ q a b.
        let i = in_span W.sound.cuts P q a b in
        let x = get_or m.atoms.cut q 0 in
        is_raised q (s.after q) a b (s.each q a b)
        ∙ ap₂ (raised m.width m.rule mine) e (old_is (node_small J) q b)
        ∙ raised_is m (with_rule m r z) r z v J x mine is (covers_between m.width z x _ _ refl refl i.0 i.1)) o same s.all

    -- THE LAW of a remove
    pub taken_out : {among : List ℕ} {few : ℕ} → Joined (with_rule m r 0) m r z v → Gathers m.width m.plan.link (set m.rule r 0) v z among few
        → ((q e : ℕ) → f ≤ q → q < t → A q e → e ≡ heir_of m.width (set m.rule r 0) among few mine (get_or m.atoms.cut q 0) (old q))
        → Listed m (with_rule m r 0) v label' owner' list list' count
    unfolding with_rule
    taken_out {among} {few} J G is_heir = updated m r 0 v f t label owner W J.less (differ_out J W.sound.cuts P) s.after (λ q a b.
        let i = in_span W.sound.cuts P q a b in
        let x = get_or m.atoms.cut q 0 in
        is_heir q (s.after q) a b (s.each q a b)
        ∙ ap (heir_of m.width (set m.rule r 0) among few mine x) (old_is (node_small J) q b)
        ∙ heir_is (with_rule m r 0) m r z v J x mine is among few (best_gathered (with_rule m r 0) v z x among few J.less G i.0 i.1)) m (record { width = refl; rule = refl; link = refl }) s.all
