-- `ask::reply` meets its contract: each question is refused where there is no such node, and else answered over all addresses.
-- Assumes nothing.
use Rattle.lent.proofs.Labelled.{held_whole}
use Rattle.meaning.proofs.records.Replies.{reply_none, reply_early, reply_turned, reply_given}
use Rattle.meaning.specs.Answers.{said}
use Rattle.meaning.specs.Questions.{asked, by_address}
use Rattle.meaning.specs.Records.{loop as ask_loop, fate as ask_fate, reach as ask_reach, tally as ask_tally, sort_of}
use Rattle.meaning.specs.Step.{when, question_refusal, reply_to}
use Rattle.meaning.specs.declared.Answer.TheVariants.{Went}
use Rattle.lent.proofs.Others.{asks_nothing}
use Rattle.meaning.specs.declared.hall.Phase.TheVariants.{Closed}
use Rattle.meaning.specs.declared.Refusal.TheVariants.{NoNode}
use Rattle.meaning.specs.declared.Record.TheVariants.{Loop as AskLoop, Fate as AskFate, Reach as AskReach, Tally as AskTally}
use borrow.Author.Rules.{rules}
use Prim.Native.Nat.{◌<◌}
use borrow.Author.Tests.{le-leb, lt-leb}
use mathlib.Core.Logic.{inl, inr}
use native.Mathlib.Omega.{arith}
use mathlib.Core.Path.{◌≡◌, refl, sym, ap, ◌∙◌}
use Rattle.questions.proofs.ask.reply.Goals as goal

pub returns-then-ne : goal.returns-then-ne
returns-then-ne c = ap said (sym (reply_early _ _ (λ e. search rules)))

pub find_loop-requires : goal.find_loop-requires
find_loop-requires c = held_whole _ _ _ c.requires

pub find_reach-requires-clause-whole : goal.find_reach-requires-clause-whole
find_reach-requires-clause-whole c = held_whole _ _ _ c.requires

pub count_fates-requires-clause-whole : goal.count_fates-requires-clause-whole
count_fates-requires-clause-whole c = held_whole _ _ _ c.requires

pub returns-in-Loop : goal.returns-in-Loop
unfolding question_refusal sort_of
returns-in-Loop c =
    let closed : c.args.hall.now.plan.phase ≡ Closed = search rules in
    ap said (c.find_loop.ensures ∙ sym (ap (reply_to _) c.in-Loop.is ∙ reply_given _ AskLoop ask_loop refl closed refl))

pub returns-in-Fate : goal.returns-in-Fate
unfolding question_refusal when sort_of
returns-in-Fate c =
    let closed : c.args.hall.now.plan.phase ≡ Closed = search rules in
    ap said (sym (ap (reply_to _) c.in-Fate.is ∙ reply_turned _ (AskFate _ _) (ask_fate _ _) refl closed NoNode (rw (le-leb _ _ c.if-nodes-v.true))))

pub returns-in-Fate-2 : goal.returns-in-Fate-2
unfolding question_refusal when sort_of by_address asked
returns-in-Fate-2 c =
    let closed : c.args.hall.now.plan.phase ≡ Closed = search rules in
    let l : c.in-Fate-2.v < c.args.hall.now.plan.nodes = let q : c.in-Fate-2.v ≡ c.in-Fate.v = cc (c.in-Fate.is, c.in-Fate-2.is) in omega arith in
    ap said (ap Went c.fate_from.ensures
    ∙ sym (ap (reply_to _) c.in-Fate-2.is ∙ reply_given _ (AskFate _ _) (ask_fate _ _) refl closed (rw (lt-leb _ _ l))))

pub returns-in-Reach : goal.returns-in-Reach
unfolding question_refusal when sort_of
returns-in-Reach c =
    let closed : c.args.hall.now.plan.phase ≡ Closed = search rules in
    elim c.if-nodes-w.either [
      | inl h ↦ ap said (sym (ap (reply_to _) c.in-Reach.is ∙ reply_turned _ (AskReach _ _) (ask_reach _ _) refl closed NoNode (rw (le-leb _ _ h))))
      | inr h ↦ ap said (sym (ap (reply_to _) c.in-Reach.is ∙ reply_turned _ (AskReach _ _) (ask_reach _ _) refl closed NoNode (rw (lt-leb _ _ h.0, le-leb _ _ h.1))))
    ]

pub returns-in-Reach-2 : goal.returns-in-Reach-2
unfolding question_refusal when sort_of
returns-in-Reach-2 c =
    let closed : c.args.hall.now.plan.phase ≡ Closed = search rules in
    let l : (c.in-Reach-2.v < c.args.hall.now.plan.nodes) × (c.in-Reach-2.w < c.args.hall.now.plan.nodes) =
    let q : c.in-Reach-2.v ≡ c.in-Reach.v = cc (c.in-Reach.is, c.in-Reach-2.is) in
    let r : c.in-Reach-2.w ≡ c.in-Reach.w = cc (c.in-Reach.is, c.in-Reach-2.is) in
    (omega arith, omega arith) in
    ap said (c.find_reach.ensures
    ∙ sym (ap (reply_to _) c.in-Reach-2.is ∙ reply_given _ (AskReach _ _) (ask_reach _ _) refl closed (rw (lt-leb _ _ l.0, lt-leb _ _ l.1))))

pub returns-in-Tally : goal.returns-in-Tally
unfolding question_refusal when sort_of
returns-in-Tally c =
    let closed : c.args.hall.now.plan.phase ≡ Closed = search rules in
    ap said (sym (ap (reply_to _) c.in-Tally.is ∙ reply_turned _ (AskTally _) (ask_tally _) refl closed NoNode (rw (le-leb _ _ c.if-nodes-v-3.true))))

pub returns-in-Tally-2 : goal.returns-in-Tally-2
unfolding question_refusal when sort_of
returns-in-Tally-2 c =
    let closed : c.args.hall.now.plan.phase ≡ Closed = search rules in
    let l : c.in-Tally-2.v < c.args.hall.now.plan.nodes = let q : c.in-Tally-2.v ≡ c.in-Tally.v = cc (c.in-Tally.is, c.in-Tally-2.is) in omega arith in
    ap said (c.count_fates.ensures
    ∙ sym (ap (reply_to _) c.in-Tally-2.is ∙ reply_given _ (AskTally _) (ask_tally _) refl closed (rw (lt-leb _ _ l))))

pub returns-in_default : goal.returns-in_default
returns-in_default c =
    let M = c.in_default in
    ap said (sym (reply_none _ _ (asks_nothing _ M.not-Loop M.not-Fate M.not-Reach M.not-Tally)))
