-- `tables::update::remove` meets its contract: the rule that goes is live and its ends are boundaries, so that the sweep over its places hands
-- its node on to the winners of the rules that are left. Assumes nothing.
use Prim.Native.Nat.{ℕ, ◌+◌, ◌*◌, ◌/◌}
use Rattle.lent.proofs.OwnerRules.{Spans, rule_spans, node_small}
use Rattle.meaning.proofs.sound.OneRule.{Joined, goes}
use Rattle.meaning.specs.Atoms.{place_of}
use Rattle.meaning.specs.Box.{state_of}
use Rattle.meaning.specs.Hall.{ipv4, State, source_of}
use Rattle.meaning.specs.Records.{remove}
use Rattle.meaning.specs.Step.{with_rule, updated, node_of}
use Rattle.meaning.specs.Winner.{rule_at}
use Rattle.tables.proofs.Updated.{ready, listed_as, taken_out}
use lib.ListN.{get_or}
use mathlib.Core.Path.{◌≡◌, refl, ap, ◌∙◌}
use borrow.Author.Rules.{rules}
use Rattle.tables.proofs.update.remove.Goals as goal
use Rattle.tables.proofs.update.remove.Goals.{After-place_of-t}

-- ---- once the node and the places are known

module _ (c : After-place_of-t) where
  -- the state, and the word of the rule that goes
  abbrev state : State
  state = state_of c.args.hall.now

  abbrev word : ℕ
  word = rule_at state c.args.r

  abbrev node : ℕ
  node = c.source_of-v.result

  node_is : node ≡ node_of state (remove c.args.r)
  unfolding node_of source_of rule_at
  node_is = c.source_of-v.ensures.0 ∙ ap (λ (l : ℕ). get_or c.args.hall.now.plan.link l 0 / 1024) c.link_of-l.ensures.0

  joined : Joined (with_rule state c.args.r 0) state c.args.r word node
  joined = goes state c.args.r c.requires.whole.sound c.requires.phase c.requires.passes node node_is

  spans : Spans ipv4 c.args.hall.now.atoms.cut c.args.hall.now.atoms.count word c.place_of-f.result.0 c.place_of-t.result.0
  unfolding rule_at
  spans =
      let at = place_of c.args.hall.now.atoms.cut c.args.hall.now.atoms.count in
      rule_spans joined (c.place_of-f.ensures.0 ∙ ap at c.lower_of.ensures.0) (c.place_of-t.ensures.0 ∙ ap at c.upper_of.ensures.0)

-- ---- the goals

pub bounds-hall-r : goal.bounds-hall-r
bounds-hall-r c =
    let m = state_of c.args.hall.now in
    (goes m c.args.r c.requires.whole.sound c.requires.phase c.requires.passes _ refl).slot

pub bounds-hall-r-2 : goal.bounds-hall-r-2
bounds-hall-r-2 c = (joined (goal.at.bounds-hall-r-2 c).After-place_of-t).slot

pub owner_of-gone-requires : goal.owner_of-gone-requires
owner_of-gone-requires c = (c.link_of-l.ensures.1, (joined (goal.at.owner_of-gone-requires c).After-place_of-t).slot)

pub sweep-listed-requires-clause-ready : goal.sweep-listed-requires-clause-ready
sweep-listed-requires-clause-ready c =
    let p = (goal.at.sweep-listed-requires-clause-ready c).After-place_of-t in
    ready c.requires.whole (node_small (joined p)) (spans p) c.requires.room

pub returns-clause-state : goal.returns-clause-state
unfolding updated with_rule
returns-clause-state c = refl

pub returns-clause-listed : goal.returns-clause-listed
unfolding updated with_rule rule_at
returns-clause-listed c =
    let p = (goal.at.returns-clause-listed c).After-place_of-t in
    listed_as refl (node_is p)
    (taken_out (state p) c.args.r (word p) (node p) _ _ c.requires.whole (spans p) _ (c.owner_of-gone.ensures ∙ ap (λ (x : ℕ). x * 512 + (c.args.r + 1)) c.link_of-l.ensures.0) c.sweep-listed.ensures (joined p) c.gather-gathered.ensures
    (λ q e a b p. search rules))
