-- `hall::link::check` meets its contract: the checks in their order, and by the end the last ones. Assumes nothing.
use mathlib.Core.Logic.{◌⊎◌, inl, inr}
use Rattle.std.proofs.Common.{◌≡◌, ℕ, ◌<◌, sym, ap, ◌∙◌, subst, arith, rules, le-leb}
use Rattle.std.proofs.lemmas.Bool.{lt-leb}
use Rattle.meaning.specs.Step.{when, set_up_refusal}
use Rattle.std.specs.Prelude.{Result, Ok as Okay, Err}
use Rattle.meaning.specs.declared.hall.End.{End}
use Rattle.meaning.specs.declared.hall.End.TheVariants.{Node, Port, Drop}
use Rattle.meaning.specs.declared.Refusal.{Refusal}
use Rattle.meaning.specs.Hall.{end_from}
use Rattle.meaning.proofs.base.Order.{clash}
use Rattle.hall.proofs.Links.{Says, says, no_end, node_high, passes}
use Rattle.hall.proofs.link.check.Goals as goal

pub returns-then-plan-ge64 : goal.returns-then-plan-ge64
unfolding set_up_refusal when
returns-then-plan-ge64 c = rw (le-leb 64 c.args.plan.now.links (omega arith))

pub returns-then-plan-source : goal.returns-then-plan-source
unfolding set_up_refusal when
returns-then-plan-source c = rw (lt-leb 64 c.args.plan.now.links (omega arith), le-leb c.args.plan.now.nodes c.args.source (omega arith))

-- what the end's code and number say
says_of : (code number : ℕ) (r : Result End Refusal) → r ≡ end_from code number → (x : Result End Refusal) → r ≡ x → Says code number x
says_of code number r e x f = subst (Says code number) (sym e ∙ f) (says code number)

-- a port and the drop are no node
no_node : {x : End} → ((p : ℕ) × (x ≡ Port p)) ⊎ (x ≡ Drop) → (v n : ℕ) → x ≡ Node v → v < n
no_node (inl h) v n e = clash (cc (h.1, e))
no_node (inr h) v n e = clash (cc (h, e))

pub returns-in_err-end : goal.returns-in_err-end
returns-in_err-end c =
    let z : c.from_residual.result ≡ Err c.in_err-end.field-0.0 = search rules in
    rw z (no_end _ _ _ _ c.if-plan-ge64.false c.if-plan-source.false _ (says_of _ _ _ c.try_from.ensures _ c.in_err-end.was))

pub returns-else-node-plan : goal.returns-else-node-plan
returns-else-node-plan c =
    node_high _ _ _ _ c.if-plan-ge64.false c.if-plan-source.false c.in-Node.node
    (says_of _ _ _ c.try_from.ensures _ (c.in_ok-end.was ∙ ap (λ (x : End). Okay x) c.in-Node.is)) c.if-node-plan.false

pub returns-then-node-plan : goal.returns-then-node-plan
returns-then-node-plan c =
    passes c.args.plan.now c.args.source _ _ c.if-plan-ge64.false c.if-plan-source.false (Node c.in-Node.node)
    (says_of _ _ _ c.try_from.ensures _ (c.in_ok-end.was ∙ ap (λ (x : End). Okay x) c.in-Node.is)) (λ v e. let z : c.in-Node.node ≡ v = cc in omega arith)

pub returns-in-Port : goal.returns-in-Port
returns-in-Port c =
    passes c.args.plan.now c.args.source _ _ c.if-plan-ge64.false c.if-plan-source.false _ (says_of _ _ _ c.try_from.ensures _ c.in_ok-end.was)
    (λ v e. no_node c.in-Port.is v _ e)
