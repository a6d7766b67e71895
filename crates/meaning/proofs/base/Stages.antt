-- A hall's phase and its number determine each other. Assumes nothing.
use mathlib.Core.Path.{◌≡◌, refl}
use native.Mathlib.Omega.{arith}
use Rattle.meaning.specs.declared.hall.Phase.{Phase}
use Rattle.meaning.specs.declared.hall.Phase.TheVariants.{Bare, Open, Closed}
use Rattle.meaning.specs.Hall.{stage}

pub stage_once : {p q : Phase} → stage p ≡ stage q → p ≡ q
stage_once {p = Bare} {q = Bare} e = refl
stage_once {p = Bare} {q = Open} e = absurd (omega arith)
stage_once {p = Bare} {q = Closed} e = absurd (omega arith)
stage_once {p = Open} {q = Bare} e = absurd (omega arith)
stage_once {p = Open} {q = Open} e = refl
stage_once {p = Open} {q = Closed} e = absurd (omega arith)
stage_once {p = Closed} {q = Bare} e = absurd (omega arith)
stage_once {p = Closed} {q = Open} e = absurd (omega arith)
stage_once {p = Closed} {q = Closed} e = refl
