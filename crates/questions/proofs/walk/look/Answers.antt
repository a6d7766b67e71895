-- `walk::look` meets its contract. The loop's invariant: the packet stands at `here` after i moves from v, none of them led back to v, and
-- each node passed leads to `here`; the nodes of `off` are among them, and v is or is `here`. Assumes nothing.
use Prim.Native.Nat.{ℕ, ◌*◌, ◌%◌, ◌^◌, ◌≤◌, ◌<◌}
use Rattle.lent.proofs.Walking.{in_either, in_new, step_to, back_now, not_back, no_circle, none_below, trail_start, trail_here, trail_on, trail_off}
use Rattle.lent.specs.Nodes.{among}
use Rattle.meaning.specs.Walk.{after, on_circle}
use Rattle.questions.specs.Moves.{IsLed, IsSeen, Included}
use borrow.Author.Tests.{eq-eqb}
use lib.Bits.{bit_or}
use mathlib.Core.Bool.{true}
use mathlib.Core.Logic.{◌⊎◌, inl, inr, ⊎_elim}
use mathlib.Core.Path.{◌≡◌, refl, sym, ap, ◌∙◌}
use native.Mathlib.Omega.{arith}
use Rattle.questions.proofs.walk.look.Goals as goal

-- a set that node u has joined has v, which it had or which is u, and what it had
joined : (off nodes u v : ℕ) → u < 16 → (among nodes v ≡ true) ⊎ (u ≡ v) → Included off nodes
    → (among (bit_or nodes (1 * 2 ^ u % 65536)) v ≡ true) × Included off (bit_or nodes (1 * 2 ^ u % 65536))
joined off nodes u v h e w =
    let all : ℕ = bit_or nodes (1 * 2 ^ u % 65536) in
    let more : Included nodes all = in_either nodes (1 * 2 ^ u % 65536) in
    (⊎_elim (more v) (λ (q : u ≡ v). sym (ap (among all) q) ∙ in_new nodes u h) e, λ x f. more x (w x f))

pub loop-init : goal.loop-init
unfolding after
loop-init c = (omega arith, refl, (λ k h. absurd (omega arith)), trail_start _ _ _ _ _ c.requires.1, inr refl, λ x e. e)

pub returns-then-w-v : goal.returns-then-w-v
unfolding IsLed IsSeen
returns-then-w-v c =
    let q = c.in-Some.ensures in
    back_now _ _ _ _ _ c.loop.invariant.1 _ _ (omega arith) q.0 c.if-w-v.true

pub overflow_shr-off : goal.overflow_shr-off
unfolding IsLed
overflow_shr-off c = c.in-Some.ensures.1

pub returns-then-off-w-eq1 : goal.returns-then-off-w-eq1
unfolding IsLed IsSeen
returns-then-off-w-eq1 c =
    let q = c.in-Some.ensures in
    let off = c.requires.1.none_on _ (eq-eqb _ _ c.if-off-w-eq1.true) in
    let to = trail_on _ _ _ _ _ (trail_here _ _ _ _ _ c.loop.invariant.0 c.loop.invariant.3) _ q.0 in
    let j = joined c.args.off c.loop.passed c.loop.here c.args.v c.loop.invariant.0 c.loop.invariant.4 c.loop.invariant.5 in
    (trail_off _ _ _ _ _ to off, j.0, j.1)

pub returns-in_default : goal.returns-in_default
unfolding IsLed IsSeen
returns-in_default c =
    let q = c.in_default.ensures in
    let to = trail_here _ _ _ _ _ c.loop.invariant.0 c.loop.invariant.3 in
    let j = joined c.args.off c.loop.passed c.loop.here c.args.v c.loop.invariant.0 c.loop.invariant.4 c.loop.invariant.5 in
    (trail_off _ _ _ _ _ to (no_circle _ _ _ q _), j.0, j.1)

pub loop-preserved : goal.loop-preserved
unfolding IsLed
loop-preserved c =
    let q = c.in-Some.ensures in
    let b = not_back _ _ _ _ _ c.loop.invariant.1 c.loop.invariant.2 _ q.0 c.if-w-v.false in
    let to = trail_on _ _ _ _ _ (trail_here _ _ _ _ _ c.loop.invariant.0 c.loop.invariant.3) _ q.0 in
    let j = joined c.args.off c.loop.passed c.loop.here c.args.v c.loop.invariant.0 c.loop.invariant.4 c.loop.invariant.5 in
    (q.1, step_to _ _ _ _ _ c.loop.invariant.1 _ q.0, b, to, inl j.0, j.1)

pub returns : goal.returns
unfolding IsSeen on_circle
returns c =
    let end : c.args.hall.now.plan.nodes ≤ c.loop.counter = omega arith in
    let to = trail_here _ _ _ _ _ c.requires.0.node (trail_start _ _ _ _ _ c.requires.1) in
    let j = joined c.args.off c.args.off c.args.v c.args.v c.requires.0.node (inr refl) (λ x e. e) in
    (trail_off _ _ _ _ _ to (none_below _ _ _ c.loop.invariant.2 end), j.0, j.1)
