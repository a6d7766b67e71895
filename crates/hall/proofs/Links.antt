-- The checks of a link record, by the end that its code and its number say. Assumes nothing.
use Rattle.std.proofs.Common.{◌≡◌, refl, ℕ, ◌+◌, ◌*◌, ◌<◌, ◌≤◌, Bool, true, false, ◌&&◌, arith, ne_eqb, lt-ltb, le-leb, eqb}
use Rattle.std.proofs.lemmas.Bool.{lt-leb}
use Rattle.std.proofs.Math.Option.{none, some}
use Rattle.std.specs.Prelude.{◌⊎◌, Result, Ok, Err}
use borrow.Author.Tests.{eqb-true, eqb-false}
use mathlib.Core.Logic.{inl, inr}
use Rattle.meaning.specs.declared.hall.End.{End}
use Rattle.meaning.specs.declared.hall.End.TheVariants.{Node, Port, Drop}
use Rattle.meaning.specs.declared.hall.Plan.{Plan}
use Rattle.meaning.specs.declared.Refusal.{Refusal}
use Rattle.meaning.specs.declared.Refusal.TheVariants.{NoNode, NoEnd}
use Rattle.meaning.specs.Search.{pick}
use Rattle.meaning.specs.Hall.{end_number, end_from}
use Rattle.meaning.specs.Records.{link}
use Rattle.meaning.specs.Step.{when, set_up_refusal}

-- what an end from a code c and a number n says of them
abbrev pub Says : ℕ → ℕ → Result End Refusal → Type 0
Says c n (Err k) = (k ≡ NoEnd) × ((2 < c) ⊎ ((c ≡ 2) × (n ≡ 0 → ⊥)))
Says c n (Ok (Node v)) = (c ≡ 0) × (v ≡ n)
Says c n (Ok (Port p)) = (c ≡ 1) × (p ≡ n)
Says c n (Ok Drop) = (c ≡ 2) × (n ≡ 0)

pub says : (c n : ℕ) → Says c n (end_from c n)
unfolding end_from
says c n = go (eqb c 0) refl (eqb c 1) refl (eqb c 2) refl (eqb n 0) refl
  where
    go : (a : Bool) → eqb c 0 ≡ a → (b : Bool) → eqb c 1 ≡ b → (d : Bool) → eqb c 2 ≡ d → (z : Bool) → eqb n 0 ≡ z
        → Says c n (pick a (Ok (Node n)) (pick b (Ok (Port n)) (pick (d && z) (Ok Drop) (Err NoEnd))))
    go true e b f d g z h = (eqb-true c 0 e, refl)
    go false e true f d g z h = (eqb-true c 1 f, refl)
    go false e false f true g true h = (eqb-true c 2 g, eqb-true n 0 h)
    go false e false f true g false h = (refl, inr (eqb-true c 2 g, eqb-false n 0 h))
    go false e false f false g z h = (refl, inl (let x = eqb-false c 0 e in let y = eqb-false c 1 f in let w = eqb-false c 2 g in omega arith))

module _ (p : Plan) (s c n : ℕ) (room : p.links < 64) (source : s < p.nodes) where
  pub no_end : (k : Refusal) → Says c n (Err k) → set_up_refusal p (link s c n) ≡ some k
  unfolding set_up_refusal when
  no_end k (e, inl h) = rw (lt-leb 64 p.links room, lt-leb p.nodes s source, lt-ltb 2 c h, e) refl
  no_end k (e, inr h) = rw (lt-leb 64 p.links room, lt-leb p.nodes s source, h.0, ne_eqb n 0 h.1, e) refl

  pub node_high : (v : ℕ) → Says c n (Ok (Node v)) → p.nodes ≤ v → set_up_refusal p (link s c n) ≡ some NoNode
  unfolding set_up_refusal when
  node_high v (z, e) h = rw (lt-leb 64 p.links room, lt-leb p.nodes s source, z, ← e, le-leb p.nodes v h) refl

  pub passes : (x : End) → Says c n (Ok x) → ((v : ℕ) → x ≡ Node v → v < p.nodes) → (set_up_refusal p (link s c n) ≡ none) × (end_number x ≡ c * 256 + n)
  unfolding set_up_refusal when end_number
  passes (Node v) (z, e) f = (rw (lt-leb 64 p.links room, lt-leb p.nodes s source, z, ← e, lt-leb p.nodes v (f v refl)) refl, omega arith)
  passes (Port q) (z, e) f = (rw (lt-leb 64 p.links room, lt-leb p.nodes s source, z) refl, omega arith)
  passes Drop (z, e) f = (rw (lt-leb 64 p.links room, lt-leb p.nodes s source, z, e) refl, omega arith)
