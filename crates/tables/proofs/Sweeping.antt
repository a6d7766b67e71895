-- Laws of a sweep: with the owner of one place left or changed, one place more is swept. Assumes nothing.
use mathlib.Core.Path.{◌≡◌, refl, sym, ap, ap₂, ◌∙◌}
use mathlib.Core.Bool.{Bool, true, false}
use mathlib.Core.List.{List, [], ◌∷◌, ◌++◌, append-nil}
use mathlib.Core.Logic.{◌⊎◌, inl, inr}
use Prim.Native.Nat.{ℕ, zero, suc, ◌+◌, ◌-◌, ◌*◌, ◌/◌, ◌≤◌, ◌<◌}
use native.Mathlib.Omega.{arith}
use native.Mathlib.Decide.{ℕ_discrete}
use lib.Dec.{eqb}
use lib.ListN.{length, get_or, set, take, drop, length-append, length-set}
use lib.Seq.{take_at, drop-append-add, drop-drop, get_or-set_same, get_or-set_other}
use borrow.Author.Tests.{eq-eqb, ne_eqb}
use Rattle.meaning.specs.Search.{pick}
use Rattle.meaning.specs.Labels.{on}
use Rattle.meaning.specs.Changes.{overwrite}
use Rattle.meaning.specs.Tables.{Numbers}
use Rattle.meaning.proofs.atoms.Numbers.{one_place}
use Rattle.lent.specs.Owners.{owner_in, via, Agrees}
use Rattle.lent.proofs.Labelled.{via_none}
use Rattle.tables.specs.Bits.{Moved}
use Rattle.tables.specs.Sweep.{Swept, entries_from, WroteEntries, owner_by, Ready, SweptAll, SweptBy}

-- ---- one entry of the owners

-- entry i becomes x, and no other entry changes
pub record OneStored (before after : List ℕ) (i x : ℕ) : Type 0 where
  pub long : length after ≡ length before
  pub at : get_or after i 0 ≡ x
  pub else : (j : ℕ) → (j ≡ i → ⊥) → get_or after j 0 ≡ get_or before j 0

set_stored : (l : List ℕ) (i x : ℕ) → i < length l → OneStored l (set l i x) i x
set_stored l i x h = record { long = length-set l i x; at = get_or-set_same l i x 0 h; else = λ j n. get_or-set_other l i j x 0 n }

-- ---- the owners

module _ {number owner₀ owner owner' : List ℕ} {n v f p : ℕ} {h : ℕ → ℕ} (s : Swept number owner₀ owner n v f p h) (numbers : Numbers number n) (node : v < 16) (from : f ≤ p) (within : p < n) where
  swept_more : OneStored owner owner' (16 * get_or number p 0 + v) (h p) → Swept number owner₀ owner' n v f (p + 1) h
  swept_more w = record {
    long = w.long ∙ s.long;
    done = λ q a b. done q a b (ℕ_discrete q p);
    nodes = λ k u hk hu d. w.else (16 * k + u) (λ e. d (omega arith)) ∙ s.nodes k u hk hu d;
    places = λ q hq c. places q hq c;
    past = λ k a b. w.else (16 * k + v) (λ e. omega (arith, numbers.small p within)) ∙ s.past k a b;
  }
    where
      other : (q : ℕ) → q < n → (q ≡ p → ⊥) → owner_in owner' (get_or number q 0) v ≡ owner_in owner (get_or number q 0) v
      other q hq d = w.else (16 * get_or number q 0 + v) (λ e. d (one_place numbers q p hq within (omega arith)))

      done : (q : ℕ) → f ≤ q → q < p + 1 → Dec (q ≡ p) → owner_in owner' (get_or number q 0) v ≡ h q
      done q a b (yes d) = rw d w.at
      done q a b (no d) = other q (omega arith) d ∙ s.done q a (omega arith)

      places : (q : ℕ) → q < n → (q < f) ⊎ (p + 1 ≤ q) → owner_in owner' (get_or number q 0) v ≡ owner_in owner₀ (get_or number q 0) v
      places q hq (inl a) = other q hq (λ d. omega arith) ∙ s.places q hq (inl a)
      places q hq (inr a) = other q hq (λ d. omega arith) ∙ s.places q hq (inr (omega arith))

-- ---- the labels

-- a link that starts elsewhere is not that of an owner at node v
elsewhere : (link : List ℕ) (v e l : ℕ) → l < 64 → ((e ≡ 0 → ⊥) → get_or link (via e) 0 / 1024 ≡ v) → (get_or link l 0 / 1024 ≡ v → ⊥) → eqb (via e) l ≡ false
elsewhere link v e l hl s n =
    ne_eqb (via e) l (λ d. n (ap (λ (x : ℕ). get_or link x 0 / 1024) (sym d) ∙ s (λ z. omega (arith, ap via z, via_none))))

moved_bit : (m o : Bool) → pick m true (pick o false o) ≡ m
moved_bit true o = refl
moved_bit false true = refl
moved_bit false false = refl

-- one owner changes, and the atom moves from its link to the new one's, both of which start at the owner's node: the labels agree as before
module _ {link label label' owner owner' : List ℕ} {k v old new : ℕ} (agrees : Agrees link label owner) (moved : Moved label label' (via old) (via new) k) (stored : OneStored owner owner' (16 * k + v) new)
    (was : owner_in owner k v ≡ old) (from : (old ≡ 0 → ⊥) → get_or link (via old) 0 / 1024 ≡ v) (to : (new ≡ 0 → ⊥) → get_or link (via new) 0 / 1024 ≡ v) where
  agrees_moved : Agrees link label' owner'
  agrees_moved = record { bits = λ l j hl hj. bits l j hl hj (ℕ_discrete (get_or link l 0 / 1024) v) (ℕ_discrete j k) }
    where
      still : (l j : ℕ) → l < 64 → j < 512 → (get_or link l 0 / 1024 ≡ v → ⊥) → Dec (j ≡ k) → on label' l j ≡ on label l j
      still l j hl hj a (yes b) =
          rw b (moved.at l hl ∙ ap₂ (λ (x y : Bool). pick x true (pick y false (on label l k))) (elsewhere link v new l hl to a) (elsewhere link v old l hl from a))
      still l j hl hj a (no b) = moved.else l j hl hj b

      entry : (l i : ℕ) → l < 64 → (get_or link l 0 / 1024 ≡ v → ⊥) → Dec (i ≡ 16 * k + v) → eqb (via (get_or owner i 0)) l ≡ eqb (via (get_or owner' i 0)) l
      entry l i hl a (yes e) = rw (e, was, stored.at) (elsewhere link v old l hl from a ∙ sym (elsewhere link v new l hl to a))
      entry l i hl a (no e) = ap (λ (x : ℕ). eqb (via x) l) (sym (stored.else i e))

      bits : (l j : ℕ) → l < 64 → j < 512 → Dec (get_or link l 0 / 1024 ≡ v) → Dec (j ≡ k) → on label' l j ≡ eqb (via (owner_in owner' j (get_or link l 0 / 1024))) l
      bits l j hl hj (yes a) (yes b) =
          rw (b, a, stored.at)
          (moved.at l hl ∙ ap (λ (x : Bool). pick (eqb (via new) l) true (pick (eqb (via old) l) false x)) (rw b at (agrees.bits l j hl hj) ∙ ap (λ (x : ℕ). eqb (via (owner_in owner k x)) l) a ∙ ap (λ (x : ℕ). eqb (via x) l) was)
          ∙ moved_bit (eqb (via new) l) (eqb (via old) l))
      bits l j hl hj (yes a) (no b) =
          moved.else l j hl hj b ∙ agrees.bits l j hl hj
          ∙ ap (λ (x : ℕ). eqb (via x) l) (sym (stored.else (16 * j + get_or link l 0 / 1024) (λ e. b (omega arith))))
      bits l j hl hj (no a) d =
          still l j hl hj a d ∙ agrees.bits l j hl hj
          ∙ entry l (16 * j + get_or link l 0 / 1024) hl a (ℕ_discrete (16 * j + get_or link l 0 / 1024) (16 * k + v))

-- ---- the list

-- one entry more, on plain lists
appended : (E l l' l'' x : List ℕ) (i j : ℕ) → length E ≡ i → length E + length x ≡ j → l' ≡ overwrite E l → l'' ≡ take i l' ++ x ++ drop j l' → l'' ≡ overwrite (E ++ x) l
unfolding overwrite
appended E l l' l'' x i j e h w v =
    v ∙ ap₂ (λ (a b : List ℕ). a ++ x ++ b)
    (ap (take i) w ∙ take_at E (drop (length E) l) i e)
    (ap₂ (λ (a : ℕ) (b : List ℕ). drop a b) (sym h) w ∙ drop-append-add E (drop (length E) l) (length x) ∙ drop-drop (length x) (length E) l
    ∙ ap (λ (a : ℕ). drop a l) (sym (length-append E x)))

-- the entries of one place more
entries_more : (g h : ℕ → ℕ) (cut number : List ℕ) (f p : ℕ) → f ≤ p → entries_from g h cut number f (p + 1 - f)
    ≡ entries_from g h cut number f (p - f) ++ pick (eqb (g p) (h p)) [] (get_or number p 0 ∷ get_or cut p 0 ∷ get_or cut (p + 1) 0 ∷ via (g p) ∷ via (h p) ∷ [])
unfolding entries_from
entries_more g h cut number f p from =
    let e : p + 1 - f ≡ suc (p - f) = omega arith in
    let d : f + (p - f) ≡ p = omega arith in
    rw (e, entries_from, d)

wrote_none : (g h : ℕ → ℕ) (cut number : List ℕ) (f : ℕ) (list : List ℕ) → WroteEntries g h cut number f (f - f) list list 0
unfolding entries_from overwrite
wrote_none g h cut number f list = let e : f - f ≡ 0 = omega arith in record { words = rw e; count = rw e; few = omega arith }

module _ {g h : ℕ → ℕ} {cut number list list' : List ℕ} {f p k : ℕ} (w : WroteEntries g h cut number f (p - f) list list' k) (from : f ≤ p) where
  wrote_skip : g p ≡ h p → WroteEntries g h cut number f (p + 1 - f) list list' k
  wrote_skip e =
      let d : entries_from g h cut number f (p + 1 - f) ≡ entries_from g h cut number f (p - f) = entries_more g h cut number f p from ∙ rw (eq-eqb (g p) (h p) e) (append-nil _) in
      record { words = rw d w.words; count = rw d w.count; few = omega (arith, w.few) }

  wrote_more : {list'' : List ℕ} → (g p ≡ h p → ⊥)
      → list'' ≡ take (5 * k) list' ++ (get_or number p 0 ∷ get_or cut p 0 ∷ get_or cut (p + 1) 0 ∷ via (g p) ∷ via (h p) ∷ []) ++ drop (5 * k + 5) list'
      → WroteEntries g h cut number f (p + 1 - f) list list'' (k + 1)
  wrote_more {list''} n e =
      let x : List ℕ = get_or number p 0 ∷ get_or cut p 0 ∷ get_or cut (p + 1) 0 ∷ via (g p) ∷ via (h p) ∷ [] in
      let d : entries_from g h cut number f (p + 1 - f) ≡ entries_from g h cut number f (p - f) ++ x = rw (ne_eqb (g p) (h p) n) at (entries_more g h cut number f p from) in
      record {
        words = rw d (appended (entries_from g h cut number f (p - f)) list list' list'' x (5 * k) (5 * k + 5) w.count (omega (arith, w.count)) w.words e);
        count = rw d (omega (arith, w.count, length-append (entries_from g h cut number f (p - f)) x));
        few = omega (arith, w.few);
      }

-- the entries go by the owners from f on alone
entries_alike : (g h h' : ℕ → ℕ) (cut number : List ℕ) (f d : ℕ) → ((q : ℕ) → f ≤ q → q < f + d → h' q ≡ h q) → entries_from g h' cut number f d ≡ entries_from g h cut number f d
unfolding entries_from
entries_alike g h h' cut number f zero e = refl
entries_alike g h h' cut number f (suc d) e =
    rw (entries_alike g h h' cut number f d (λ q a b. e q a (omega arith)), e (f + d) (omega arith) (omega arith))

-- ---- all of it

-- a sweep to the same owners
swept_alike : {cut number label label' owner owner' list list' : List ℕ} {n v f t k : ℕ} {g h h' : ℕ → ℕ} → ((q : ℕ) → f ≤ q → q < t → h' q ≡ h q)
    → SweptAll cut number n v f t g h label label' owner owner' list list' k → SweptAll cut number n v f t g h' label label' owner owner' list list' k
swept_alike {cut} {number} {f = f} {t = t} {g = g} {h = h} {h' = h'} e s =
    let w : entries_from g h' cut number f (t - f) ≡ entries_from g h cut number f (t - f) = entries_alike g h h' cut number f (t - f) (λ q a b. e q a (omega arith)) in
    record {
      owners = record {
        long = s.owners.long;
        done = λ q a b. s.owners.done q a b ∙ sym (e q a b);
        nodes = s.owners.nodes;
        places = s.owners.places;
        past = s.owners.past;
      };
      labels = λ link agrees starts at. s.labels link agrees starts (λ q a b. rw (e q a b) at (at q a b));
      words = record { words = rw w s.words.words; count = rw w s.words.count; few = s.words.few };
    }

-- no place swept
pub swept_none : {P : ℕ → ℕ → Type 0} {cut number label owner list : List ℕ} {n v f : ℕ} {g : ℕ → ℕ} → SweptBy P cut number n v f f g label label owner owner list list 0
swept_none = record {
  after = λ q. 0;
  each = λ q a b. absurd (omega arith);
  all = record {
    owners = record {
      long = refl;
      done = λ q a b. absurd (omega arith);
      nodes = λ k u hk hu d. refl;
      places = λ q hq c. refl;
      past = λ k a b. refl;
    };
    labels = λ link agrees starts from. agrees;
    words = wrote_none _ _ _ _ _ _;
  };
}

-- the atom's number is in range at each place to sweep
pub small : {number owner list : List ℕ} {n v f t p : ℕ} → Ready number owner list n v f t → p < t → get_or number p 0 < 512
small {p = p} ready below = omega (arith, ready.numbers.small p (omega (arith, ready.within)), ready.few)

module _ {P : ℕ → ℕ → Type 0} {cut number label₀ label owner₀ owner list₀ list : List ℕ} {n v f p t k : ℕ} (ready : Ready number owner₀ list₀ n v f t) (from : f ≤ p) (below : p < t)
    (swept : SweptBy P cut number n v f p (owner_by owner₀ number v) label₀ label owner₀ owner list₀ list k) where
  -- the owner at the next place is that from before the sweep
  kept : owner_by owner number v p ≡ owner_by owner₀ number v p
  kept = swept.all.owners.places p (omega (arith, ready.within)) (inr (omega arith))

  -- and it is what is read at the index of the place's atom
  pub swept_reads : {atom i : ℕ} → atom ≡ get_or number p 0 → i ≡ 16 * atom + v → get_or owner i 0 ≡ owner_by owner₀ number v p
  swept_reads a e = rw (e, a) kept

  -- the owners after the sweep, with that of one place more
  abbrev next : ℕ → ℕ → ℕ
  next new q = pick (eqb q p) new (swept.after q)

  next_here : (new : ℕ) → next new p ≡ new
  next_here new = rw (eq-eqb p p refl)

  next_below : (new q : ℕ) → f ≤ q → q < p → next new q ≡ swept.after q
  next_below new q a b = rw (ne_eqb q p (λ d. omega arith))

  next_each : (new : ℕ) → P p new → (q : ℕ) → f ≤ q → q < p + 1 → P q (next new q)
  next_each new x q a b = go (ℕ_discrete q p)
    where
      go : Dec (q ≡ p) → P q (next new q)
      go (yes d) = rw (d, next_here new) x
      go (no d) = rw (next_below new q a (omega arith)) (swept.each q a (omega arith))

  more_owners : {after : List ℕ} (new : ℕ) → OneStored owner after (16 * get_or number p 0 + v) new → Swept number owner₀ after n v f (p + 1) (next new)
  more_owners new w = swept_more (swept_alike (next_below new) swept.all).owners ready.numbers ready.node from (omega (arith, ready.within)) (rw (next_here new) w)

  -- one place more swept, whose owner stays
  pub swept_still : {old new : ℕ} → old ≡ owner_by owner₀ number v p → P p new → old ≡ new
      → SweptBy P cut number n v f (p + 1) (owner_by owner₀ number v) label₀ label owner₀ owner list₀ list k
  swept_still {new = new} o x e =
      let s = swept_alike (next_below new) swept.all in
      record {
        after = next new;
        each = next_each new x;
        all = record {
          owners = more_owners new (record { long = refl; at = kept ∙ sym o ∙ e; else = λ j d. refl });
          labels = λ link agrees starts at. s.labels link agrees starts (λ q a b. at q a (omega arith));
          words = wrote_skip s.words from (sym o ∙ e ∙ sym (next_here new));
        };
      }

  -- one place more swept, whose owner changes
  pub swept_changed : {old new atom i from_link to_link k' : ℕ} {label' owner' list' : List ℕ} → old ≡ owner_by owner₀ number v p → P p new → (old ≡ new → ⊥)
      → atom ≡ get_or number p 0 → i ≡ 16 * atom + v → owner' ≡ set owner i new
      → from_link ≡ via old → to_link ≡ via new → Moved label label' from_link to_link atom
      → list' ≡ take (5 * k) list ++ (atom ∷ get_or cut p 0 ∷ get_or cut (p + 1) 0 ∷ from_link ∷ to_link ∷ []) ++ drop (5 * k + 5) list
      → k' ≡ k + 1 → SweptBy P cut number n v f (p + 1) (owner_by owner₀ number v) label₀ label' owner₀ owner' list₀ list' k'
  swept_changed {old} {new} {label' = label'} {owner' = owner'} o x d is at stored goes comes moved written counted =
      let s = swept_alike (next_below new) swept.all in
      let inside : 16 * get_or number p 0 + v < length owner = omega (arith, small ready below, ready.node, ready.size, s.owners.long) in
      let w : OneStored owner owner' (16 * get_or number p 0 + v) new = rw (stored, at, is) (set_stored owner (16 * get_or number p 0 + v) new inside) in
      let m : Moved label label' (via old) (via new) (get_or number p 0) = rw (← goes, ← comes, ← is) moved in
      record {
        after = next new;
        each = next_each new x;
        all = record {
          owners = more_owners new w;
          labels = λ link agrees starts at. agrees_moved (s.labels link agrees starts (λ q a b. at q a (omega arith))) m w (kept ∙ sym o)
              (rw o (starts.here (get_or number p 0) v (small ready below) ready.node)) (rw (next_here new) at (at p from (omega arith)));
          words = rw counted (wrote_more s.words from (λ e. d (o ∙ e ∙ next_here new)) (rw (next_here new, ← o, ← goes, ← comes, ← is) written));
        };
      }
