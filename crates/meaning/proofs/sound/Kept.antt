-- Each accepted record keeps a state sound, so a state that came from the fresh one by records is sound. Assumes nothing.
use mathlib.Core.Path.{◌≡◌, refl, sym, ap, ◌∙◌}
use mathlib.Core.Bool.{Bool, true, false, true≢false}
use mathlib.Core.Option.{none}
use Prim.Native.Nat.{ℕ, ◌+◌, ◌*◌, ◌/◌, ◌%◌, ◌≤◌, ◌<◌}
use native.Mathlib.Decide.{ℕ_discrete}
use native.Mathlib.Omega.{arith}
use lib.Dec.{ltb, eqb}
use lib.ListN.{length, get_or, set, length-set}
use lib.Seq.{get_or-set_same, get_or-set_other}
use borrow.Author.Tests.{ltb-false, eq-eqb}
use Rattle.meaning.specs.Search.{pick}
use Rattle.meaning.specs.declared.hall.Phase.TheVariants.{Bare, Closed, Open}
use Rattle.meaning.specs.Hall.{ipv4, top, Plan, stage, State, source_of, link_word}
use Rattle.meaning.specs.Rule.{rule_word, live, link_of, rank, lower, upper, overlap}
use Rattle.meaning.specs.Winner.{rule_at, node_for}
use Rattle.meaning.specs.Tables.{Boundary, BoundaryOf, Laid, Sound}
use Rattle.meaning.specs.Atoms.{is_cut, split_cut, split_count, with_cut, is_boundary}
use Rattle.meaning.specs.Records.{SetUp, hall, link, close, Update, insert, remove, Sort, set_up, update, question, set_up_phase, phase_of}
use Rattle.meaning.specs.Step.{set_up_refusal, planned, with_plan, clashes, added, update_refusal, with_rule, inserted, updated, refusal, leaves}
use Rattle.meaning.specs.Run.{Came}
use Rattle.meaning.proofs.atoms.Splits.{is_boundary_lem, split_cuts, split_numbers, split_has, split_keeps, split_count_lem, boundary_is}
use Rattle.meaning.proofs.rules.Words.{RuleFits, link_of_lem, lower_of, upper_of, within_top}
use Rattle.meaning.proofs.records.Sorts.{before_close}
use Rattle.meaning.proofs.records.Fields.{Sized, FitsSetUp, FitsUpdate, Fits}
use Rattle.meaning.proofs.sound.Sound.{came_keeps, empty_sound}
use Rattle.meaning.proofs.records.Checks.{when_none, ClearLink, clear_link, Clear, clear, clear_remove}
use Rattle.meaning.proofs.base.Search.{any_false, or_neither}
use Rattle.meaning.proofs.rules.Covers.{overlap_comm}

-- ---- the hall, the links and the close

module _ (p : Plan) (L : Laid p) where
  lays_hall : (n : ℕ) → p.phase ≡ Bare → set_up_refusal p (hall n) ≡ none → Laid (planned p (hall n))
  unfolding set_up_refusal planned
  lays_hall n ph ok =
      let a = or_neither (eqb n 0) (ltb 16 n) (when_none _ _ _ ok).0 in
      let z = L.bare ph in
      record {
        long = L.long;
        few = L.few;
        small = ltb-false 16 n a.1;
        sources = λ l h. absurd (omega arith);
        ends = λ l h. absurd (omega arith);
        unused = L.unused;
        bare = λ e. absurd (omega (arith, ap stage e));
      }

  lays_close : Laid (planned p close)
  unfolding planned
  lays_close = record {
    long = L.long;
    few = L.few;
    small = L.small;
    sources = L.sources;
    ends = L.ends;
    unused = L.unused;
    bare = λ e. absurd (omega (arith, ap stage e));
  }

  -- the word of the new link stands at the end, and the others stay
  module _ (s c e : ℕ) (he : e < 256) (ph : p.phase ≡ Open) (ok : set_up_refusal p (link s c e) ≡ none) where
    w : ℕ
    w = link_word s (c * 256 + e)

    fine : ClearLink p s c e
    fine = clear_link p s c e ok

    at_new : get_or (set p.link p.links w) p.links 0 ≡ w
    at_new = get_or-set_same p.link p.links w 0 (omega (arith, fine.room, L.long))

    at_old : (l : ℕ) → (l ≡ p.links → ⊥) → get_or (set p.link p.links w) l 0 ≡ get_or p.link l 0
    at_old l n = get_or-set_other p.link p.links l w 0 n

    lays_link : Laid (planned p (link s c e))
    unfolding planned w link_word
    lays_link = record {
      long = length-set p.link p.links w ∙ L.long;
      few = omega (arith, fine.room);
      small = L.small;
      sources = λ l h. source l h (ℕ_discrete l p.links);
      ends = λ l h. ending l h (ℕ_discrete l p.links);
      unused = λ l h. at_old l (λ q. omega arith) ∙ L.unused l (omega arith);
      bare = λ z. absurd (omega (arith, ap stage (sym ph ∙ z)));
    }
      where
        source : (l : ℕ) → l < p.links + 1 → Dec (l ≡ p.links) → get_or (set p.link p.links w) l 0 / 1024 < p.nodes
        source l h (yes q) = rw (q, at_new) (omega (arith, fine.source, fine.code))
        source l h (no q) = rw (at_old l q) (L.sources l (omega arith))

        ending : (l : ℕ) → l < p.links + 1 → Dec (l ≡ p.links) → get_or (set p.link p.links w) l 0 % 1024 < 256 → get_or (set p.link p.links w) l 0 % 1024 < p.nodes
        ending l h (yes q) = rw (q, at_new) (λ g. let z : c ≡ 0 = omega (arith, fine.code) in omega (arith, fine.node z))
        ending l h (no q) = rw (at_old l q) (L.ends l (omega arith))

  lays : (u : SetUp) → FitsSetUp u → p.phase ≡ set_up_phase u → set_up_refusal p u ≡ none → Laid (planned p u)
  unfolding set_up_phase FitsSetUp
  lays (hall n) f ph ok = lays_hall n ph ok
  lays (link s c e) f ph ok = lays_link s c e f ph ok
  lays close f ph ok = lays_close

-- a set-up record comes before the close: no rule is live yet, and none is after it
keeps_set_up : (m : State) (u : SetUp) → Sound m → FitsSetUp u → m.plan.phase ≡ set_up_phase u → set_up_refusal m.plan u ≡ none → Sound (with_plan m (planned m.plan u))
unfolding rule_at
keeps_set_up m u S f ph ok =
    let idle = S.idle (omega (arith, ap stage ph, before_close u)) in
    record {
      wide = S.wide;
      laid = lays m.plan S.laid u f ph ok;
      cuts = S.cuts;
      numbers = S.numbers;
      rules = S.rules;
      aligned = S.aligned;
      named = λ i l h. absurd (true≢false (sym h ∙ idle i));
      distinct = λ i j a b h. absurd (true≢false (sym h ∙ idle i));
      idle = λ h. idle;
    }

-- ---- a boundary is made

module _ (m : State) (S : Sound m) (b : ℕ) (bt : b ≤ top m) (room : is_boundary m b ≡ false → m.atoms.count < 512) where
  pub keeps_cut : Sound (with_cut m b)
  unfolding with_cut rule_at source_of
  keeps_cut = record {
    wide = S.wide;
    cuts = split_cuts (top m) m.atoms.cut m.atoms.count b S.cuts bt room;
    numbers = split_numbers (top m) m.atoms.cut m.atoms.number m.atoms.count b S.cuts bt room S.numbers;
    rules = S.rules;
    aligned = λ i l e. let a = S.aligned i l e in (kept _ a.0, kept _ a.1);
    named = S.named;
    distinct = S.distinct;
    laid = S.laid;
    idle = S.idle;
  }
    where
      kept : (x : ℕ) → BoundaryOf m x → Boundary (split_cut m.atoms.cut m.atoms.count b) (split_count m.atoms.cut m.atoms.count b) x
      kept x h = split_keeps (top m) m.atoms.cut m.atoms.count b S.cuts bt room x h

-- ---- a rule is put at number r, or taken out by 0

module _ (m : State) (r w : ℕ) (long : length m.rule ≡ 256) (hr : r < 256) where
  pub rule_new : rule_at (with_rule m r w) r ≡ w
  unfolding rule_at with_rule
  rule_new = get_or-set_same m.rule r w 0 (omega arith)

  pub rule_old : (i : ℕ) → (i ≡ r → ⊥) → rule_at (with_rule m r w) i ≡ rule_at m i
  unfolding rule_at with_rule
  rule_old i n = get_or-set_other m.rule r i w 0 n

-- a live word may be put: its link is declared, its ends are boundaries, and it clashes with no rule
record Joins (m : State) (w : ℕ) : Type 0 where
  declared : link_of m.width w < m.plan.links
  from : BoundaryOf m (lower m.width w)
  to : BoundaryOf m (upper m.width w)
  alone : clashes m w ≡ false

module _ (m : State) (S : Sound m) (r w : ℕ) (hr : r < 256) (ph : m.plan.phase ≡ Closed) (joins : live w ≡ true → Joins m w) where
  alike : live w ≡ true → (i : ℕ) → i < 256 → live (rule_at m i) ≡ true → node_for m (rule_at m i) ≡ node_for m w → rank m.width (rule_at m i) ≡ rank m.width w → overlap m.width (rule_at m i) w ≡ true → ⊥
  unfolding clashes
  alike z i l e f g h = true≢false (sym (rw (e, eq-eqb _ _ f, eq-eqb _ _ g, h) refl) ∙ any_false _ 256 (joins z).alone i l)

  -- rule i, now
  at : (i : ℕ) → Dec (i ≡ r) → ℕ
  at i (yes q) = w
  at i (no q) = rule_at m i

  at_is : (i : ℕ) (d : Dec (i ≡ r)) → rule_at (with_rule m r w) i ≡ at i d
  unfolding at
  at_is i (yes q) = ap (rule_at (with_rule m r w)) q ∙ rule_new m r w S.rules hr
  at_is i (no q) = rule_old m r w S.rules hr i q

  aligned' : (i : ℕ) → i < 256 → (d : Dec (i ≡ r)) → live (at i d) ≡ true → BoundaryOf m (lower m.width (at i d)) × BoundaryOf m (upper m.width (at i d))
  unfolding at
  aligned' i l (yes q) e = ((joins e).from, (joins e).to)
  aligned' i l (no q) e = S.aligned i l e

  named' : (i : ℕ) → i < 256 → (d : Dec (i ≡ r)) → live (at i d) ≡ true → link_of m.width (at i d) < m.plan.links
  unfolding at
  named' i l (yes q) e = (joins e).declared
  named' i l (no q) e = S.named i l e

  distinct' : (i j : ℕ) → i < 256 → j < 256 → (d : Dec (i ≡ r)) (e : Dec (j ≡ r)) → live (at i d) ≡ true → live (at j e) ≡ true
      → node_for m (at i d) ≡ node_for m (at j e) → rank m.width (at i d) ≡ rank m.width (at j e) → overlap m.width (at i d) (at j e) ≡ true → i ≡ j
  unfolding at
  distinct' i j a b (yes p) (yes q) x y f g h = p ∙ sym q
  distinct' i j a b (yes p) (no q) x y f g h = absurd (alike x j b y (sym f) (sym g) (overlap_comm _ _ _ ∙ h))
  distinct' i j a b (no p) (yes q) x y f g h = absurd (alike y i a x f g h)
  distinct' i j a b (no p) (no q) x y f g h = S.distinct i j a b x y f g h

  keeps_rule : Sound (with_rule m r w)
  keeps_rule = record {
    wide = unfold with_rule in S.wide;
    cuts = unfold with_rule in S.cuts;
    numbers = unfold with_rule in S.numbers;
    rules = unfold with_rule in length-set m.rule r w ∙ S.rules;
    aligned = λ i l. let d = ℕ_discrete i r in rw (at_is i d) (unfold with_rule in aligned' i l d);
    named = λ i l. let d = ℕ_discrete i r in rw (at_is i d) (unfold with_rule in named' i l d);
    distinct = λ i j a b.
        let d = ℕ_discrete i r in
        let e = ℕ_discrete j r in
        rw (at_is i d, at_is j e) (unfold with_rule source_of in distinct' i j a b d e);
    laid = unfold with_rule in S.laid;
    idle = λ h. absurd (unfold with_rule in omega (arith, ap stage ph));
  }

keeps_remove : (m : State) → Sound m → (r : ℕ) → r < 256 → m.plan.phase ≡ Closed → Sound (with_rule m r 0)
unfolding live
keeps_remove m S r hr ph = keeps_rule m S r 0 hr ph (λ e. absurd (true≢false (sym e)))

-- ---- an insert

-- the parts of an accepted rule have room in its word
pub rule_fits : {m : State} {r l p n t : ℕ} → Sound m → Sized m.width l p t → Clear m r l p n t → RuleFits m.width l p n t
rule_fits S F C = record { wide = S.wide; link = omega (arith, C.declared, S.laid.few); prefix = F.prefix; long = C.long; priority = F.priority }

-- the ends of word w lie in the range, and there is room for a boundary at each
pub record RoomForEnds (m : State) (w : ℕ) : Type 0 where
  pub lower_top : lower m.width w ≤ top m
  pub upper_top : upper m.width w ≤ top m
  pub both : m.atoms.count + added m w ≤ 512

pub room_for : (m : State) → Sound m → {r l p n t : ℕ} → Sized m.width l p t → Clear m r l p n t → RoomForEnds m (rule_word m.width l p n t)
room_for m S {r} {l} {p} {n} {t} F C = record {
  lower_top = omega (arith, lower_of (rule_fits S F C), F.prefix);
  upper_top = omega (arith, upper_of (rule_fits S F C), within_top m.width p n F.prefix C.long C.flush);
  both = C.room;
}

module _ (m : State) (S : Sound m) (w : ℕ) (R : RoomForEnds m w) where
  pub room_lower : is_boundary m (lower m.width w) ≡ false → m.atoms.count < 512
  unfolding added
  room_lower e = omega (arith, rw e at R.both)

  pub keeps_lower : Sound (with_cut m (lower m.width w))
  keeps_lower = keeps_cut m S (lower m.width w) R.lower_top room_lower

  -- what was a boundary still is, so one that is missing now was missing
  pub missing : is_cut (with_cut m (lower m.width w)).atoms.cut (with_cut m (lower m.width w)).atoms.count (upper m.width w) ≡ false → is_boundary m (upper m.width w) ≡ false
  missing e = go (is_boundary m (upper m.width w)) refl
    where
      go : (x : Bool) → is_boundary m (upper m.width w) ≡ x → x ≡ false
      go true f =
          absurd (true≢false
          (sym (boundary_is keeps_lower.cuts (upper m.width w) (unfold with_cut in split_keeps (top m) m.atoms.cut m.atoms.count (lower m.width w) S.cuts R.lower_top room_lower (upper m.width w) (is_boundary_lem m.atoms.cut m.atoms.count (upper m.width w) f)))
          ∙ e))
      go false f = refl

  pub count_lower : (with_cut m (lower m.width w)).atoms.count ≡ m.atoms.count + pick (is_boundary m (lower m.width w)) 0 1
  unfolding with_cut
  count_lower = split_count_lem (top m) m.atoms.cut m.atoms.count (lower m.width w) S.cuts R.lower_top room_lower

  pub room_upper : is_cut (with_cut m (lower m.width w)).atoms.cut (with_cut m (lower m.width w)).atoms.count (upper m.width w) ≡ false → (with_cut m (lower m.width w)).atoms.count < 512
  unfolding added
  room_upper e =
      let one : ◌≡◌ {A = ℕ} (pick (is_boundary m (upper m.width w)) 0 1) 1 = rw (missing e) in
      omega (arith, R.both, one, count_lower)

  pub keeps_upper : Sound (with_cut (with_cut m (lower m.width w)) (upper m.width w))
  unfolding with_cut
  keeps_upper = keeps_cut (with_cut m (lower m.width w)) keeps_lower (upper m.width w) R.upper_top room_upper

  -- both ends are boundaries then, and what was one still is
  abbrev Is : ℕ → Type 0
  Is x = let o = with_cut (with_cut m (lower m.width w)) (upper m.width w) in Boundary o.atoms.cut o.atoms.count x

  pub ends_keep : (x : ℕ) → BoundaryOf m x → Is x
  unfolding with_cut
  ends_keep x h = split_keeps (top m) _ _ (upper m.width w) keeps_lower.cuts R.upper_top room_upper x (split_keeps (top m) m.atoms.cut m.atoms.count (lower m.width w) S.cuts R.lower_top room_lower x h)

  pub has_lower : Is (lower m.width w)
  unfolding with_cut
  has_lower = split_keeps (top m) _ _ (upper m.width w) keeps_lower.cuts R.upper_top room_upper (lower m.width w) (split_has (top m) m.atoms.cut m.atoms.count (lower m.width w) S.cuts R.lower_top room_lower)

  pub has_upper : Is (upper m.width w)
  unfolding with_cut
  has_upper = split_has (top m) _ _ (upper m.width w) keeps_lower.cuts R.upper_top room_upper

keeps_insert : (m : State) → Sound m → (r l p n t : ℕ) → Sized m.width l p t → m.plan.phase ≡ Closed → Clear m r l p n t → Sound (inserted m r (rule_word m.width l p n t))
unfolding inserted with_cut
keeps_insert m S r l p n t F ph C =
    let w = rule_word m.width l p n t in
    let R = room_for m S F C in
    keeps_rule (with_cut (with_cut m (lower m.width w)) (upper m.width w)) (keeps_upper m S w R) r w C.number
    (unfold with_cut in ph)
    (λ e. record {
      declared = unfold with_cut in omega (arith, link_of_lem (rule_fits S F C), C.declared);
      from = has_lower m S w R;
      to = has_upper m S w R;
      alone = unfold with_cut clashes rule_at source_of in C.alone;
    })

-- ---- every record

pub keeps_update : (m : State) (u : Update) → Sound m → FitsUpdate m.width u → m.plan.phase ≡ Closed → update_refusal m u ≡ none → Sound (updated m u)
unfolding updated FitsUpdate
keeps_update m (insert r l p n t) S f ph ok = keeps_insert m S r l p n t f ph (clear m r l p n t ok)
keeps_update m (remove r) S f ph ok = keeps_remove m S r (clear_remove m r ok).number ph

pub keeps : (m : State) (r : Sort) → Sound m → Fits m.width r → m.plan.phase ≡ phase_of r → refusal m r ≡ none → Sound (leaves m r)
unfolding refusal leaves phase_of Fits
keeps m (set_up u) S f ph ok = keeps_set_up m u S f ph ok
keeps m (update u) S f ph ok = keeps_update m u S f ph ok
keeps m (question q) S f ph ok = S

-- THE LAW: a state that came from the fresh one by records is sound
pub sound : (m : State) → Came m → Sound m
sound = came_keeps Sound (empty_sound ipv4 (omega arith)) keeps
