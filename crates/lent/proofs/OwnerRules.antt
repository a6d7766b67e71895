-- What an update does to the owners: which owner a rule is, the places that it covers, and where the owners differ. Assumes nothing.
use mathlib.Core.Path.{◌≡◌, refl, sym, ap, ◌∙◌}
use mathlib.Core.Logic.{⊎_elim}
use mathlib.Core.Bool.{Bool, true, false}
use mathlib.Core.List.{List}
use mathlib.Core.Option.{none, some}
use Prim.Native.Nat.{ℕ, ◌+◌, ◌*◌, ◌^◌, ◌≤◌, ◌<◌}
use native.Mathlib.Omega.{arith}
use lib.Dec.{ltb}
use lib.ListN.{get_or}
use borrow.Author.Tests.{ltb-true, ltb-false, eqb-true}
use Rattle.meaning.specs.Search.{pick}
use Rattle.meaning.specs.Hall.{top, State, source_of}
use Rattle.meaning.specs.Rule.{live, link_of, lower, upper, covers}
use Rattle.meaning.specs.Winner.{rule_at, winner, link_for}
use Rattle.meaning.specs.Working.{owner_word}
use Rattle.meaning.specs.Atoms.{place_of, is_cut}
use Rattle.meaning.specs.Changes.{link_or_none}
use Rattle.meaning.specs.Tables.{Cuts, Boundary, Sound}
use Rattle.meaning.proofs.rules.Covers.{covers_is}
use Rattle.meaning.proofs.base.Order.{le_or_lt}
use Rattle.meaning.proofs.atoms.Cuts.{place_le, place_max, cut_le}
use Rattle.meaning.proofs.atoms.Splits.{boundary_is}
use Rattle.meaning.proofs.sound.OneRule.{Joined, stays, where_wins, owner_alike}
use Rattle.lent.specs.Owners.{via}
use Rattle.lent.proofs.Labelled.{link_small, via_word, via_won, won_at}

-- ---- one rule more

-- an owner tells which rule it is
pub owner_once : (m n : State) (x y : ℕ) → x ≤ 256 → y ≤ 256 → owner_word m x ≡ owner_word n y → x ≡ y
unfolding owner_word
owner_once m n x y hx hy e = go (ltb x 256) refl (ltb y 256) refl e
  where
    go : (s : Bool) → ltb x 256 ≡ s → (t : Bool) → ltb y 256 ≡ t
        → pick s (link_of m.width (rule_at m x) * 512 + (x + 1)) 0 ≡ pick t (link_of n.width (rule_at n y) * 512 + (y + 1)) 0 → x ≡ y
    go true p true q e = omega (arith, ltb-true x 256 p, ltb-true y 256 q)
    go true p false q e = absurd (omega arith)
    go false p true q e = absurd (omega arith)
    go false p false q e = omega (arith, ltb-false x 256 p, ltb-false y 256 q)

-- it names the link of its rule, which starts at its node
pub via_owner : (m : State) (w : ℕ) → via (owner_word m w) ≡ link_or_none (link_for m w)
unfolding via owner_word link_for link_or_none
via_owner m w = go (ltb w 256) refl
  where
    go : (t : Bool) → ltb w 256 ≡ t → via (pick t (link_of m.width (rule_at m w) * 512 + (w + 1)) 0) ≡ link_or_none (pick t (some (link_of m.width (rule_at m w))) none)
    go true e = via_word (link_of m.width (rule_at m w)) w (link_small m.width (rule_at m w)) (ltb-true w 256 e)
    go false e = refl

pub owner_source : (m : State) → Sound m → (v a : ℕ) → (owner_word m (winner m v a) ≡ 0 → ⊥) → source_of m (via (owner_word m (winner m v a))) ≡ v
owner_source m S v a n = let o = won_at m S v a n in ap (source_of m) (via_won m v (owner_word m (winner m v a)) o) ∙ o.here

-- ---- the places that a rule covers

-- they are those from f to below t
pub record Spans (width : ℕ) (cut : List ℕ) (k z f t : ℕ) : Type 0 where
  pub from : get_or cut f 0 ≡ lower width z
  pub to : get_or cut t 0 ≡ upper width z
  pub order : f ≤ t
  pub within : t ≤ k

module _ {width : ℕ} {cut : List ℕ} {k z f t : ℕ} (C : Cuts (2 ^ width) cut k) where
  -- where its ends are boundaries, they are found by their places
  pub spans : Boundary cut k (lower width z) → Boundary cut k (upper width z) → f ≡ place_of cut k (lower width z) → t ≡ place_of cut k (upper width z) → Spans width cut k z f t
  unfolding is_cut lower upper
  spans lo hi p q =
      let low : get_or cut f 0 ≡ lower width z = ap (λ (i : ℕ). get_or cut i 0) p ∙ eqb-true _ _ (boundary_is C (lower width z) lo) in
      record {
        from = low;
        to = ap (λ (i : ℕ). get_or cut i 0) q ∙ eqb-true _ _ (boundary_is C (upper width z) hi);
        order = omega (arith, place_max cut k (upper width z) f (omega (arith, place_le cut k (lower width z))) (omega arith));
        within = omega (arith, place_le cut k (upper width z));
      }

  module _ (P : Spans width cut k z f t) (q : ℕ) where
    pub in_span : f ≤ q → q < t → (lower width z ≤ get_or cut q 0) × (get_or cut q 0 < upper width z)
    in_span a b =
        (omega (arith, P.from, P.within, cut_le C f q a (omega (arith, P.within))), omega (arith, P.to, C.up q t b P.within))

    pub of_span : q < k → covers width z (get_or cut q 0) ≡ true → (f ≤ q) × (q < t)
    of_span h e =
        let b = (covers_is width z (get_or cut q 0)).0 e in (
          ⊎_elim (λ (g : f ≤ q). g) (λ (g : q < f). absurd (omega (arith, C.up q f g (omega (arith, P.order, P.within)), P.from, b.0))) (le_or_lt f q),
          ⊎_elim (λ (g : t ≤ q). absurd (omega (arith, cut_le C t q g (omega arith), P.to, b.1))) (λ (g : q < t). g) (le_or_lt t q),
        )

module _ {m n : State} {r z v : ℕ} (J : Joined m n r z v) where
  -- the ends of a rule are boundaries
  pub rule_spans : {f t : ℕ} → f ≡ place_of n.atoms.cut n.atoms.count (lower n.width z) → t ≡ place_of n.atoms.cut n.atoms.count (upper n.width z) → Spans n.width n.atoms.cut n.atoms.count z f t
  rule_spans p q =
      let a = J.more.aligned r J.slot (ap live J.word ∙ J.alive) in
      spans J.more.cuts (rw J.word at a.0) (rw J.word at a.1) p q

  pub node_small : v < 16
  unfolding source_of
  node_small =
      let h = J.more.named r J.slot (ap live J.word ∙ J.alive) in
      omega (arith, J.node, J.more.laid.sources (link_of n.width z) (omega (arith, ap (link_of n.width) J.word)), J.more.laid.small)

-- ---- where the winners differ

-- at node v from place f to below t at most; and the same winner is the same owner
pub record Differ (m n : State) (cut : List ℕ) (k v f t : ℕ) : Type 0 where
  pub node : v < 16
  pub order : f ≤ t
  pub within : t ≤ k
  pub alike : (u a : ℕ) → winner m u a ≡ winner n u a → owner_word m (winner m u a) ≡ owner_word n (winner n u a)
  pub still : (u q : ℕ) → q < k → ((u ≡ v) × (f ≤ q) × (q < t) → ⊥) → winner m u (get_or cut q 0) ≡ winner n u (get_or cut q 0)

pub differ_in : {m n : State} {r z v : ℕ} {cut : List ℕ} {k f t : ℕ} → Joined m n r z v → Cuts (top n) cut k → Spans n.width cut k z f t → Differ m n cut k v f t
differ_in {m} {n} {r} {z} {v} {cut} J C P = record {
  node = node_small J;
  order = P.order;
  within = P.within;
  alike = owner_alike m n r z v J;
  still = λ u q h d. stays m n r z v J u (get_or cut q 0) (λ e.
      let w = where_wins m n r z v J u (get_or cut q 0) e in
      let s = of_span C P q h w.1 in
      d (w.0, s.0, s.1));
}

pub differ_out : {m n : State} {r z v : ℕ} {cut : List ℕ} {k f t : ℕ} → Joined m n r z v → Cuts (top n) cut k → Spans n.width cut k z f t → Differ n m cut k v f t
differ_out J C P =
    let d = differ_in J C P in
    record {
      node = d.node;
      order = d.order;
      within = d.within;
      alike = λ u a e. sym (d.alike u a (sym e));
      still = λ u q h x. sym (d.still u q h x);
    }
