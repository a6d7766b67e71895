-- `tables::update::insert` meets its contract: the rule's ends are made boundaries, so that the sweep over the places between them gives its node
-- to the rule where it has the highest rank. Assumes nothing.
use Prim.Native.Nat.{ℕ, ◌+◌, ◌*◌, ◌^◌, ◌≤◌, ◌<◌}
use Rattle.lent.proofs.OwnerRules.{Spans, rule_spans, node_small}
use Rattle.lent.specs.Owners.{WholeBy}
use Rattle.meaning.proofs.records.Checks.{Clear, clear}
use Rattle.meaning.proofs.records.Fields.{Sized}
use Rattle.meaning.proofs.rules.Covers.{SameRules}
use Rattle.meaning.proofs.rules.Words.{RuleFits, link_of_lem}
use Rattle.meaning.proofs.sound.Kept.{rule_fits, RoomForEnds, room_for, room_lower, room_upper}
use Rattle.meaning.proofs.sound.OneRule.{Joined, comes}
use Rattle.meaning.specs.Atoms.{place_of, with_cut, is_boundary}
use Rattle.meaning.specs.Box.{state_of}
use Rattle.meaning.specs.declared.hall.Hall.{Hall}
use Rattle.meaning.specs.declared.hall.Phase.TheVariants.{Closed}
use Rattle.meaning.specs.declared.hall.Rule.{Rule}
use Rattle.meaning.specs.Hall.{ipv4, State, source_of}
use Rattle.meaning.specs.Records.{Update, insert}
use Rattle.meaning.specs.Rule.{rule_word, link_of, rank, lower, upper}
use Rattle.meaning.specs.Step.{update_refusal, with_rule, inserted, updated, node_of}
use Rattle.tables.proofs.Updated.{numbered_at, ready, listed_as, taken_in}
use mathlib.Core.Bool.{false}
use mathlib.Core.Option.{none}
use mathlib.Core.Path.{◌≡◌, refl, sym, ap, ◌∙◌, subst⁻¹}
use borrow.Author.Rules.{rules}
use native.Mathlib.Omega.{arith}
use Rattle.tables.proofs.update.insert.Goals as goal
use Rattle.tables.proofs.update.insert.Goals.{Start, After-place_of-t}

-- ---- at the call

-- what is known of the hall, the rule's number and the rule
record Call (h : Hall) (r : ℕ) (x : Rule) : Type 0 where
  whole : WholeBy h
  phase : h.plan.phase ≡ Closed
  passes : update_refusal (state_of h) (insert r x.link x.prefix x.length x.priority) ≡ none
  sized : Sized ipv4 x.link x.prefix x.priority

call : (c : Start) → Call c.args.hall.now c.args.r c.args.x
call c = record {
  whole = c.requires.whole;
  phase = c.requires.phase;
  passes = c.requires.passes;
  sized = record { link = omega arith; prefix = omega arith; priority = omega arith };
}

module _ {h : Hall} {r : ℕ} {x : Rule} (A : Call h r x) where
  -- the state, the record and the new rule's word
  abbrev state : State
  state = state_of h

  abbrev asked : Update
  asked = insert r x.link x.prefix x.length x.priority

  abbrev word : ℕ
  word = rule_word ipv4 x.link x.prefix x.length x.priority

  passed : Clear state r x.link x.prefix x.length x.priority
  passed = clear state r x.link x.prefix x.length x.priority A.passes

  room : RoomForEnds state word
  room = room_for state A.whole.sound A.sized passed

  fits : RuleFits ipv4 x.link x.prefix x.length x.priority
  fits = rule_fits A.whole.sound A.sized passed

  mine_is : x.link * 512 + (r + 1) ≡ link_of ipv4 word * 512 + (r + 1)
  mine_is = ap (λ (k : ℕ). k * 512 + (r + 1)) (sym (link_of_lem fits))

  low_room : {low : ℕ} → low ≡ lower ipv4 word → (low ≤ 2 ^ ipv4) × (is_boundary state low ≡ false → h.atoms.count < 512)
  low_room low_is = let below = room.lower_top in (
    omega (arith, low_is, below),
    λ e. room_lower state A.whole.sound word room (sym (ap (is_boundary state) low_is) ∙ e),
  )

  -- after the first boundary
  high_room : (m : State) {high : ℕ} → m ≡ with_cut state (lower ipv4 word) → high ≡ upper ipv4 word → (high ≤ 2 ^ ipv4) × (is_boundary m high ≡ false → m.atoms.count < 512)
  high_room m one high_is =
      let below = room.upper_top in
      let free = subst⁻¹ (λ (o : State). is_boundary o (upper ipv4 word) ≡ false → o.atoms.count < 512) one (room_upper state A.whole.sound word room) in
      (omega (arith, high_is, below), λ e. free (sym (ap (is_boundary m) high_is) ∙ e))

-- ---- once the node and the places are known

module _ (c : After-place_of-t) (A : Call c.args.hall.now c.args.r c.args.x) where
  -- the state with both boundaries
  abbrev cut : State
  cut = state_of c.make_boundary-2.new.hall

  low_is : c.lower_of-low.result ≡ lower ipv4 (word A)
  low_is = c.lower_of-low.ensures.0 ∙ ap (lower ipv4) c.pack-w.ensures

  high_is : c.upper_of-high.result ≡ upper ipv4 (word A)
  high_is = c.upper_of-high.ensures.0 ∙ ap (upper ipv4) c.pack-w.ensures

  cut_is : cut ≡ with_cut (with_cut (state A) (lower ipv4 (word A))) (upper ipv4 (word A))
  cut_is = rw (← low_is, ← high_is) (c.make_boundary-2.ensures.state ∙ ap (λ (m : State). with_cut m c.upper_of-high.result) c.make_boundary.ensures.state)

  left_is : with_rule cut c.args.r (word A) ≡ updated (state A) (asked A)
  unfolding updated inserted
  left_is = ap (λ (m : State). with_rule m c.args.r (word A)) cut_is

  same : SameRules (state A) cut
  unfolding with_cut
  same = subst⁻¹ (λ (m : State). SameRules (state A) m) cut_is (record { width = refl; rule = refl; link = refl })

  node_is : c.source_of-v.result ≡ node_of (state A) (asked A)
  unfolding node_of source_of
  node_is = c.source_of-v.ensures.0

  joined : Joined cut (with_rule cut c.args.r (word A)) c.args.r (word A) c.source_of-v.result
  joined = comes (state A) c.args.r _ _ _ _ A.whole.sound A.sized A.phase A.passes cut cut_is c.make_boundary-2.ensures.whole.sound _ node_is

  -- the places between them
  spans : Spans ipv4 cut.atoms.cut cut.atoms.count (word A) c.place_of-f.result.0 c.place_of-t.result.0
  unfolding with_rule
  spans = let at = place_of cut.atoms.cut cut.atoms.count in rule_spans joined (c.place_of-f.ensures.0 ∙ ap at low_is) (c.place_of-t.ensures.0 ∙ ap at high_is)

-- ---- the goals

pub bounds-hall-x : goal.bounds-hall-x
bounds-hall-x c = (fits (call (goal.at.bounds-hall-x c).Start)).link

pub pack-w-requires : goal.pack-w-requires
pack-w-requires c = let A = call (goal.at.pack-w-requires c).Start in ((fits A).link, (fits A).long)

pub make_boundary-requires-clause-room : goal.make_boundary-requires-clause-room
make_boundary-requires-clause-room c =
    let A = call (goal.at.make_boundary-requires-clause-room c).Start in
    low_room A (c.lower_of-low.ensures.0 ∙ ap (lower ipv4) c.pack-w.ensures)

pub make_boundary-requires-2-clause-room : goal.make_boundary-requires-2-clause-room
make_boundary-requires-2-clause-room c =
    let A = call (goal.at.make_boundary-requires-2-clause-room c).Start in
    let low_is = c.lower_of-low.ensures.0 ∙ ap (lower ipv4) c.pack-w.ensures in
    high_room A _ (c.make_boundary.ensures.state ∙ ap (with_cut (state A)) low_is) (c.upper_of-high.ensures.0 ∙ ap (upper ipv4) c.pack-w.ensures)

pub owner_of-mine-requires : goal.owner_of-mine-requires
owner_of-mine-requires c = let A = call (goal.at.owner_of-mine-requires c).Start in ((fits A).link, (passed A).number)

pub sweep-listed-requires-clause-ready : goal.sweep-listed-requires-clause-ready
sweep-listed-requires-clause-ready c =
    let p = (goal.at.sweep-listed-requires-clause-ready c).After-place_of-t in
    let A = call (goal.at.sweep-listed-requires-clause-ready c).Start in
    ready c.make_boundary-2.ensures.whole (node_small (joined p A)) (spans p A) c.requires.room

pub sweep-listed-requires-clause-callable : goal.sweep-listed-requires-clause-callable
sweep-listed-requires-clause-callable c = λ q a b.
    let p = (goal.at.sweep-listed-requires-clause-callable c).After-place_of-t in
    let A = call (goal.at.sweep-listed-requires-clause-callable c).Start in
    let n = numbered_at c.make_boundary-2.ensures.whole (node_small (joined p A)) (spans p A) q b in
    search (rules, n)

pub bounds-hall-r : goal.bounds-hall-r
bounds-hall-r c = (passed (call (goal.at.bounds-hall-r c).Start)).number

pub returns-clause-state : goal.returns-clause-state
unfolding with_rule
returns-clause-state c =
    let p = (goal.at.returns-clause-state c).After-place_of-t in
    let A = call (goal.at.returns-clause-state c).Start in
    ap (with_rule (cut p A) c.args.r) c.pack-w.ensures ∙ left_is p A

pub returns-clause-listed : goal.returns-clause-listed
unfolding with_rule
returns-clause-listed c =
    let p = (goal.at.returns-clause-listed c).After-place_of-t in
    let A = call (goal.at.returns-clause-listed c).Start in
    let k = c.rank_of-rank.ensures.0 ∙ ap (rank ipv4) c.pack-w.ensures in
    listed_as (left_is p A) (node_is p A)
    (taken_in (cut p A) c.args.r (word A) _ _ _ c.make_boundary-2.ensures.whole (spans p A) _ (c.owner_of-mine.ensures ∙ mine_is A) c.sweep-listed.ensures (joined p A) (state A) (same p A) _ k
    (λ q e a b p. search rules))
