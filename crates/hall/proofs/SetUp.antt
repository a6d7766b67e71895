-- A set-up record in its order leaves what its change of the plan says, and is answered so. Assumes nothing.
use Rattle.std.proofs.Common.{◌≡◌, ap, ◌∙◌, List, ℕ, ◌≤◌, length, arith}
use Rattle.std.specs.Prelude.{Result, Ok, Err, ⊤}
use Rattle.meaning.specs.declared.hall.Hall.{Hall}
use Rattle.meaning.specs.declared.hall.Plan.{Plan}
use Rattle.meaning.specs.declared.Record.{Record}
use Rattle.meaning.specs.declared.Refusal.{Refusal}
use Rattle.meaning.specs.Hall.{stage}
use Rattle.meaning.specs.Records.{SetUp, set_up, sort_of, phase_of, set_up_phase, got}
use Rattle.meaning.specs.Step.{list_room, refusal}
use Rattle.meaning.specs.Box.{state_of, HeldBy, left_in, left_for}
use Rattle.meaning.proofs.records.Sorts.{before_close}
use Rattle.lent.proofs.Steps.{turned_takes, opened_takes, order_leaves}
use Rattle.hall.specs.Plans.{SetsUp, told}

-- the hall with another plan
abbrev with_plan : Hall → Plan → Hall
with_plan h p = record { plan = p; rule = h.rule; atoms = h.atoms; label = h.label; owner = h.owner }

module _ (h : Hall) (H : HeldBy h) (list : List ℕ) (room : list_room ≤ length list) (n : ℕ) (r : Record) (u : SetUp) (is : sort_of r ≡ set_up u) (order : h.plan.phase ≡ phase_of (sort_of r)) where
  early : h.plan.phase ≡ set_up_phase u
  unfolding phase_of
  early = order ∙ ap phase_of is

  pub sets_up : (p : Plan) (outcome : Result ⊤ Refusal) → SetsUp h.plan p u outcome → left_in (told outcome) n (with_plan h p) list ≡ left_for (state_of h) list (got r n)
  unfolding refusal
  sets_up p (Ok x) s =
      let b = before_close u in
      opened_takes (state_of h) h.label h.owner list H n r u is (omega (arith, b, ap stage early)) s.0 _ (ap (λ (q : Plan). record { width = 32; plan = q; rule = h.rule; atoms = h.atoms }) s.1)
      ∙ order_leaves _ _ room _ _ order
  sets_up p (Err k) s = rw s.1 (turned_takes (state_of h) h.label h.owner list H n r k (rw is s.0) ∙ order_leaves _ _ room _ _ order)
