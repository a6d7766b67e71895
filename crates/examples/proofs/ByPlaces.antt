-- Over addresses and over places, a step, the lines of a stream and a run are the same. Assumes nothing.
use mathlib.Core.Path.{◌≡◌, refl, ap, ◌∙◌, fun_ext}
use mathlib.Core.List.{List, [], ◌∷◌}
use Prim.Native.Nat.{ℕ, zero, suc, ◌+◌}
use lib.Dec.{eqb}
use lib.ListN.{length, drop}
use Rattle.meaning.specs.declared.Answer.{Answer}
use Rattle.meaning.specs.Search.{pick}
use Rattle.meaning.specs.Hall.{State}
use Rattle.meaning.specs.Changes.{overwrite}
use Rattle.meaning.specs.Records.{read_of, Question}
use Rattle.meaning.specs.Step.{Done, step_with, step_of}
use Rattle.meaning.specs.Working.{step_in}
use Rattle.meaning.specs.Run.{Came, Ran, run_from, more}
use Rattle.examples.specs.Lines.{Line, lines_from}
use Rattle.meaning.specs.Tables.{Sound}
use Rattle.meaning.proofs.atoms.Constant.{by_place_lem}
use Rattle.meaning.proofs.sound.Kept.{sound}

pub step_in_lem : (m : State) → Sound m → step_of m ≡ step_in m
unfolding step_of step_in
step_in_lem m S = ap {B = ℕ → List ℕ → Done} (λ (f : Question → Answer) (room : ℕ) (s : List ℕ). step_with f m room (read_of s)) (fun_ext (by_place_lem m S.cuts S.aligned))

-- a run of a step that is done, with k steps more
abbrev ran_on : (State → ℕ → List ℕ → Done) → ℕ → ℕ → List ℕ → List ℕ → Done → Ran
ran_on step k n list s d =
    pick (eqb d.passed 0) (record { past = n; stopped = d.answer; left = d.left; list = overwrite d.written list })
    (run_from step k (n + 1) d.left (overwrite d.written list) (drop d.passed s))

module _ (room : ℕ) where
  pub lines_in : (k : ℕ) (m : State) (s : List ℕ) → Came m → lines_from step_of room k m s ≡ lines_from step_in room k m s
  unfolding lines_from
  lines_in zero m s c = refl
  lines_in (suc k) m s c =
      let d = step_of m room s in
      let here : Line = record { answer = d.answer; written = d.written } in
      ap (λ (ls : List Line). pick (eqb d.passed 0) [] (here ∷ ls)) (lines_in k d.left (drop d.passed s) (more room s c))
      ∙ ap (λ (f : ℕ → List ℕ → Done). pick (eqb (f room s).passed 0) [] (record { answer = (f room s).answer; written = (f room s).written } ∷ lines_from step_in room k (f room s).left (drop (f room s).passed s)))
      (step_in_lem m (sound m c))

pub run_in : (k n : ℕ) (m : State) (list s : List ℕ) → Came m → run_from step_of k n m list s ≡ run_from step_in k n m list s
unfolding run_from
run_in zero n m list s c = refl
run_in (suc k) n m list s c =
    let d = step_of m (length list) s in
    let here : Ran = record { past = n; stopped = d.answer; left = d.left; list = overwrite d.written list } in
    ap (pick (eqb d.passed 0) here) (run_in k (n + 1) d.left (overwrite d.written list) (drop d.passed s) (more (length list) s c))
    ∙ ap (λ (f : ℕ → List ℕ → Done). ran_on step_in k n list s (f (length list) s)) (step_in_lem m (sound m c))
