-- Room for a line or too little of it: the two outcomes of `WroteIfRoom`, and that there is no third. Assumes nothing.
use mathlib.Core.Path.{◌≡◌, refl, sym, ◌∙◌}
use mathlib.Core.Bool.{Bool, true, false}
use mathlib.Core.List.{List}
use Prim.Native.Nat.{ℕ, ◌+◌}
use lib.Dec.{ltb}
use lib.ListN.{length}
use borrow.Author.Tests.{ltb-true, ltb-false}
use Rattle.print.specs.Text.{WroteIfRoom}

module _ {most : ℕ} {text old : List ℕ} {at : ℕ} where
  -- ONE OUTCOME: two that both meet the contract are the same
  pub once : {new new' : List ℕ} {next next' : ℕ} → WroteIfRoom most text old new at next → WroteIfRoom most text old new' at next'
      → (new ≡ new') × (next ≡ next')
  once {new} {new'} {next} {next'} x y = go (ltb (length old) (at + most)) refl where
    go : (b : Bool) → ltb (length old) (at + most) ≡ b → (new ≡ new') × (next ≡ next')
    go true e =
        let p = x.full (ltb-true (length old) (at + most) e) in
        let q = y.full (ltb-true (length old) (at + most) e) in
        (p.0 ∙ sym q.0, p.1 ∙ sym q.1)
    go false e =
        let p = x.fits (ltb-false (length old) (at + most) e) in
        let q = y.fits (ltb-false (length old) (at + most) e) in
        (p.bytes ∙ sym q.bytes, p.moved ∙ sym q.moved)
