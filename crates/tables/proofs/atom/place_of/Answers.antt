-- `atom::place_of` meets its contract: the boundaries rise from 0, so of those behind the first the ones that are at most a come first, and the
-- place is how many they are. Assumes nothing.
use Prim.Native.Nat.{ℕ, ◌+◌, ◌-◌, ◌≤◌, ◌<◌}
use Rattle.meaning.proofs.atoms.Cuts.{cut_le, place_le, place_from, place_max, from_zero}
use Rattle.meaning.proofs.base.Order.{le_or_lt}
use Rattle.meaning.specs.Atoms.{place_of}
use Rattle.meaning.specs.Tables.{Cuts}
use Rattle.std.proofs.Common.{List, leb, leb-true, leb-false, true, false, ⊎_elim}
use Rattle.std.proofs.lemmas.Grind.{get_or_after_one}
use Rattle.std.proofs.lemmas.List.{get_or-take, length-take, length-drop}
use Rattle.std.proofs.lemmas.List.Sorted.{IsNonDecreasingBy-from_default, IsPartitionedBy-leb, IsPartitionPoint-from_clause}
use Rattle.std.specs.List.Sorted.{IsNonDecreasingBy, IsPartitionPoint}
use borrow.Author.Rules.{rules}
use lib.ListN.{length, get_or, take, drop}
use mathlib.Core.Path.{◌≡◌, refl, sym, ap, ◌∙◌}
use native.Mathlib.Omega.{arith}
use Rattle.tables.proofs.atom.place_of.Goals as goal

module _ {top : ℕ} {cut : List ℕ} {n : ℕ} (w : Cuts top cut n) (m : ℕ) (e : m ≡ n) where
  size : length (take m (drop 1 cut)) ≡ n
  size = omega (arith, length-take m (drop 1 cut), length-drop 1 cut, w.long, w.room)

  entry : (i q : ℕ) → i < n → q ≡ 1 + i → get_or (take m (drop 1 cut)) i 0 ≡ get_or cut q 0
  entry i q h s = get_or-take m (drop 1 cut) i 0 (omega arith) ∙ get_or_after_one cut i 0 ∙ ap (λ (x : ℕ). get_or cut x 0) (sym s)

  rises : IsNonDecreasingBy (λ (x : ℕ). x) (take m (drop 1 cut))
  rises = IsNonDecreasingBy-from_default (λ x. x) (take m (drop 1 cut)) 0 (λ i j h l.
      omega (arith, entry i (1 + i) (omega (arith, size)) refl, entry j (1 + j) (omega (arith, size)) refl, cut_le w (1 + i) (1 + j) (omega arith) (omega (arith, size))))

  module _ (a k : ℕ) (h : k ≤ length (take m (drop 1 cut))) (p : IsPartitionPoint (λ (y : ℕ). leb y a ≡ true) (λ (y : ℕ). leb y a ≡ false) (take m (drop 1 cut)) k) where
    upto : (q : ℕ) → 0 < q → q ≤ k → get_or cut q 0 ≤ a
    upto q z l = omega (arith, entry (q - 1) q (omega (arith, size)) (omega arith), leb-true _ _ (p.0 (q - 1) 0 (omega arith) (omega arith)))

    past : (q : ℕ) → k < q → q ≤ n → a < get_or cut q 0
    past q l r = omega (arith, entry (q - 1) q (omega arith) (omega arith), leb-false _ _ (p.1 (q - 1) 0 (omega arith) (omega (arith, size))))

    at_point : k ≡ place_of cut n a
    at_point = ⊎_elim
        (λ (l : place_of cut n a ≤ k). ⊎_elim
        (λ (s : k ≤ place_of cut n a). omega arith)
        (λ (s : place_of cut n a < k). absurd (omega (arith, place_max cut n a k (omega (arith, size)) (upto k (omega arith) (omega arith)))))
        (le_or_lt k (place_of cut n a)))
        (λ (l : k < place_of cut n a). absurd (omega (arith, past (place_of cut n a) l (place_le cut n a), place_from cut n a (from_zero w a))))
        (le_or_lt (place_of cut n a) k)

at_result : (c : goal.After-partition_point) → c.partition_point.result ≡ place_of c.args.atoms.now.cut c.args.atoms.now.count c.args.a
at_result c =
    let e = c.partition_point.ensures in
    at_point c.requires _ (omega arith) c.args.a c.partition_point.result e.bound
    (IsPartitionPoint-from_clause (λ y. leb y c.args.a) _ _ e.partitioned (IsPartitionedBy-leb (λ x. x) _ c.args.a (rises c.requires _ (omega arith))) (λ x r f h. search rules))

pub returns : goal.returns
returns c = (omega (arith, at_result c), omega (arith, at_result c, place_le c.args.atoms.now.cut c.args.atoms.now.count c.args.a))
