-- The change list has exactly the places whose winner at the node changed, by rising address. Assumes nothing.
use mathlib.Core.Path.{◌≡◌, refl, sym, ap, ◌∙◌}
use mathlib.Core.Logic.{◌↔◌, ◌⊎◌, inl, inr, ⊎_elim}
use mathlib.Core.Bool.{Bool, true, false, true≢false}
use mathlib.Core.Option.{none, some}
use mathlib.Core.List.Memᴰ
use mathlib.Core.List.{List, [], ◌∷◌, ◌++◌, append-nil, Memᴰ, append_assoc}
use Prim.Native.Nat.{ℕ, zero, suc, ◌+◌, ◌<◌, ◌*◌, ◌≤◌}
use native.Mathlib.Nat.{not-suc-le-zero, le_of_suc-le-suc, eq-or-lt_of_le}
use native.Mathlib.Omega.{arith}
use lib.ListN.{length, get_or, length-append, get_or-append}
use Rattle.meaning.specs.Search.{pick}
use Rattle.meaning.specs.Hall.{State}
use Rattle.meaning.specs.Changes.{link_or_none, changed_at, changed_places, entry_at, entries_at}
use Rattle.meaning.proofs.rules.Covers.{SameRules, winner_same, next_same}

-- a link's word in an entry is its number, and none has the first number that no link has
pub link_word_lem : (l : ℕ) → link_or_none (some l) ≡ l
unfolding link_or_none
link_word_lem l = refl

pub none_word : link_or_none none ≡ 64
unfolding link_or_none
none_word = refl

module _ (old new : State) (v : ℕ) where
  -- THE LAW: place p is among the changed places of the first n exactly when it is one of these and its winner changed
  pub listed_is : (n p : ℕ) → Memᴰ p (changed_places old new v n) ↔ ((p < n) × (changed_at old new v p ≡ true))
  unfolding changed_places
  listed_is zero p = (λ h. absurd (Memᴰ.not-nil h), λ h. absurd (not-suc-le-zero h.0))
  listed_is (suc n) p = go (changed_at old new v n) refl (listed_is n p)
    where
      earlier : List ℕ
      earlier = changed_places old new v n

      go : (t : Bool) → changed_at old new v n ≡ t → Memᴰ p earlier ↔ ((p < n) × (changed_at old new v p ≡ true))
          → Memᴰ p (earlier ++ pick t (n ∷ []) []) ↔ ((p < suc n) × (changed_at old new v p ≡ true))
      go true e f = (
        λ h. ⊎_elim (λ g. let y = f.0 g in (omega (arith, y.0), y.1)) (λ g. let q : p ≡ n = Memᴰ.eq_of_singleton g in (omega arith, ap (changed_at old new v) q ∙ e)) (Memᴰ.append_cases earlier h),
        λ h. ⊎_elim (λ (q : p ≡ n). Memᴰ.append_right earlier (Memᴰ.head q)) (λ (g : p < n). Memᴰ.append_left _ (f.1 (g, h.1))) (eq-or-lt_of_le (le_of_suc-le-suc h.0)),
      )
      go false e f = (
        λ h. ⊎_elim (λ g. let y = f.0 g in (omega (arith, y.0), y.1)) (λ g. absurd (Memᴰ.not-nil g)) (Memᴰ.append_cases earlier h),
        λ h. ⊎_elim (λ (q : p ≡ n). absurd (true≢false (sym h.1 ∙ ap (changed_at old new v) q ∙ e))) (λ (g : p < n). Memᴰ.append_left _ (f.1 (g, h.1))) (eq-or-lt_of_le (le_of_suc-le-suc h.0)),
      )

-- states that differ at the same places have the same changed places
pub places_same : (m n o p : State) (v : ℕ) → ((q : ℕ) → changed_at m n v q ≡ changed_at o p v q) → (k : ℕ) → changed_places m n v k ≡ changed_places o p v k
unfolding changed_places
places_same m n o p v h zero = refl
places_same m n o p v h (suc k) = rw (places_same m n o p v h k, h k)

-- the numbers of a list rise
abbrev pub Rises : List ℕ → Type 0
Rises ps = (i j : ℕ) → i < j → j < length ps → get_or ps i 0 < get_or ps j 0

-- and are below n
abbrev Below : ℕ → List ℕ → Type 0
Below n ps = (i : ℕ) → i < length ps → get_or ps i 0 < n

at_last : (s : List ℕ) (x : ℕ) → get_or (s ++ (x ∷ [])) (length s) 0 ≡ x
at_last [] x = refl
at_last (y ∷ s) x = at_last s x

module _ (s : List ℕ) (n : ℕ) (b : Below n s) where
  abbrev longer : List ℕ
  longer = s ++ (n ∷ [])

  size : length longer ≡ length s + 1
  size = length-append s (n ∷ [])

  at : (i : ℕ) → i < length longer → ((i < length s) × (get_or longer i 0 ≡ get_or s i 0)) ⊎ ((i ≡ length s) × (get_or longer i 0 ≡ n))
  at i h =
      ⊎_elim (λ (e : i ≡ length s). inr (e, ap (λ (k : ℕ). get_or longer k 0) e ∙ at_last s n)) (λ (g : i < length s). inl (g, get_or-append s (n ∷ []) 0 i g))
      (eq-or-lt_of_le (omega (arith, size)))

  more_below : Below (suc n) longer
  more_below i h = ⊎_elim (λ x. omega (arith, x.1, b i x.0)) (λ x. omega (arith, x.1)) (at i h)

  more_rises : Rises s → Rises longer
  more_rises r i j l h =
      ⊎_elim (λ (x : (j < length s) × (get_or longer j 0 ≡ get_or s j 0)). omega (arith, x.1, get_or-append s (n ∷ []) 0 i (omega (arith, x.0)), r i j l x.0))
      (λ (x : (j ≡ length s) × (get_or longer j 0 ≡ n)). let g : i < length s = omega (arith, x.0) in omega (arith, x.1, get_or-append s (n ∷ []) 0 i g, b i g)) (at j h)

module _ (old new : State) (v : ℕ) where
  both : (n : ℕ) → Below n (changed_places old new v n) × Rises (changed_places old new v n)
  unfolding changed_places
  both zero = (λ i h. absurd (not-suc-le-zero h), λ i j l h. absurd (not-suc-le-zero h))
  both (suc n) = go (changed_at old new v n) (both n)
    where
      earlier : List ℕ
      earlier = changed_places old new v n

      go : (t : Bool) → Below n earlier × Rises earlier → Below (suc n) (earlier ++ pick t (n ∷ []) []) × Rises (earlier ++ pick t (n ∷ []) [])
      go true f = (more_below earlier n f.0, more_rises earlier n f.0 f.1)
      go false f = rw append-nil (λ i h. omega (arith, f.0 i h), f.1)

  -- THE LAW: the changed places rise, so the list is by rising address
  pub listed_rises : (n : ℕ) → Rises (changed_places old new v n)
  listed_rises n = (both n).1

module _ (old new : State) (v : ℕ) where
  pub changed_few : (n : ℕ) → length (changed_places old new v n) ≤ n
  unfolding changed_places
  changed_few zero = omega arith
  changed_few (suc p) = rw length-append (go (changed_at old new v p) (changed_few p))
    where
      go : (t : Bool) → length (changed_places old new v p) ≤ p → length (changed_places old new v p) + length (pick t (p ∷ []) []) ≤ suc p
      go true h = omega arith
      go false h = omega arith

  pub entries_length : (ps : List ℕ) → length (entries_at old new v ps) ≡ 5 * length ps
  unfolding entries_at entry_at
  entries_length [] = refl
  entries_length (p ∷ ps) = omega (arith, entries_length ps)

module _ (m n : State) (v : ℕ) where
  entries_append : (ps qs : List ℕ) → entries_at m n v (ps ++ qs) ≡ entries_at m n v ps ++ entries_at m n v qs
  unfolding entries_at
  entries_append [] qs = refl
  entries_append (p ∷ ps) qs = rw (entries_append ps qs) (sym (append_assoc (entry_at m n v p) (entries_at m n v ps) (entries_at m n v qs)))

  -- the words of the first k places
  abbrev pub list_to : ℕ → List ℕ
  list_to k = entries_at m n v (changed_places m n v k)

  pub list_none : list_to 0 ≡ []
  unfolding changed_places entries_at
  list_none = refl

  pub list_more : (p : ℕ) → list_to (suc p) ≡ list_to p ++ pick (changed_at m n v p) (entry_at m n v p) []
  unfolding changed_places
  list_more p = entries_append (changed_places m n v p) _ ∙ ap (λ (l : List ℕ). list_to p ++ l) (go (changed_at m n v p))
    where
      go : (b : Bool) → entries_at m n v (pick b (p ∷ []) []) ≡ pick b (entry_at m n v p) []
      go true = unfold entries_at in append-nil (entry_at m n v p)
      go false = unfold entries_at in refl

  -- where nothing changes, nothing is listed
  pub list_still : (k d : ℕ) → ((p : ℕ) → k ≤ p → p < k + d → changed_at m n v p ≡ false) → list_to (k + d) ≡ list_to k
  list_still k zero h = ap list_to (omega arith)
  list_still k (suc d) h =
      let e : k + suc d ≡ suc (k + d) = omega arith in
      ap list_to e ∙ list_more (k + d) ∙ rw (h (k + d) (omega arith) (omega arith)) (append-nil (list_to (k + d)) ∙ list_still k d (λ p a b. h p a (omega arith)))

-- only the rules and the links of the state before count
module _ (m o n : State) (alike : SameRules m o) (v : ℕ) where
  pub same_places : (k : ℕ) → changed_places m n v k ≡ changed_places o n v k
  unfolding changed_at
  same_places = places_same m n o n v (λ q. rw (winner_same alike v (get_or n.atoms.cut q 0)))

  pub same_entries : (ps : List ℕ) → entries_at m n v ps ≡ entries_at o n v ps
  unfolding entries_at entry_at
  same_entries [] = refl
  same_entries (p ∷ ps) = rw (same_entries ps, next_same alike (get_or n.atoms.cut p 0) v)
