-- Leads by links that have an atom: how they are gathered, and what they show of the walks of all atoms. Assumes nothing.
use mathlib.Core.Path.{◌≡◌, refl, sym, ap, ap₂, ◌∙◌}
use mathlib.Core.Logic.{⊎_elim}
use mathlib.Core.Bool.{Bool, true, false, not, true≢false, ◌||◌}
use mathlib.Core.List.{List}
use mathlib.Core.Option.{Option}
use Prim.Native.Nat.{ℕ, zero, suc, ◌+◌, ◌-◌, ◌*◌, ◌/◌, ◌%◌, ◌^◌, ◌≤◌, ◌<◌}
use native.Mathlib.Nat.{mod-eq_of_lt}
use native.Mathlib.Decide.{ℕ_discrete, dec_lt}
use native.Mathlib.Omega.{arith}
use lib.Bits.{bit_or, bit_and, or_comm}
use lib.Dec.{eqb}
use lib.ListN.{length, get_or, set}
use lib.Seq.{get_or-set_same, get_or-set_other}
use borrow.Author.Tests.{eq-eqb, eqb-true, le-ltb}
use Rattle.meaning.specs.Records.{loop, reach}
use Rattle.meaning.specs.declared.Answer.TheVariants.{NoLoop, No}
use Rattle.meaning.specs.declared.hall.Hall.{Hall}
use Rattle.meaning.specs.Box.{state_of}
use Rattle.meaning.specs.Labels.{bit, on}
use Rattle.meaning.specs.Questions.{by_address}
use Rattle.meaning.specs.Walk.{at, leave, move, after, stands_at, on_circle, comes_to}
use Rattle.meaning.proofs.base.Order.{clash, le_or_lt}
use Rattle.meaning.proofs.base.Bits.{bit_lt, or_bits, not_bits}
use Rattle.meaning.proofs.base.Search.{any_true, any_some}
use Rattle.meaning.proofs.walk.Tests.{stands_at_lem, at_stands}
use Rattle.meaning.proofs.walk.Walks.{after_add, after_suc, going_le}
use Rattle.meaning.proofs.walk.Circles.{round_again}
use Rattle.lent.specs.Owners.{owner_in, via, next_in, end_in, WholeBy}
use Rattle.lent.specs.Nodes.{among, Off}
use Rattle.lent.proofs.Walking.{in_none, in_all, in_either, in_both, in_alone, in_new, in_old, NotYet, no_owner, to_node, to_end}
use Rattle.lent.proofs.Labelled.{via_named, starts}
use Rattle.lent.proofs.Questions.{small_atom, ends_of, loop_none, reach_none}
use Rattle.questions.specs.Moves.{ComesBy}
use Rattle.questions.specs.Leads.Grown.{started, grew}
use Rattle.questions.specs.Leads.{leads_to, Leads, LetLead, Grown, Circular, OffLeads, Met, Widened, TowardLeads, Together, OffWalks, TowardWalks}

-- what is true and false at once
both : {t : Bool} → t ≡ true → t ≡ false → ⊥
both e f = true≢false (sym e ∙ f)

-- ---- leads, link by link

-- of no link nothing is said
pub leads_none : (hall : Hall) (lead : List ℕ) → Leads hall 0 lead
leads_none hall lead = record { by = λ l k h. absurd (omega arith) }

pub let_lead : (before : List ℕ) (v u : ℕ) → length before ≡ 16 → v < 16 → u < 16 → LetLead before (set before v (bit_or (get_or before v 0) (1 * 2 ^ u % 65536))) v u
let_lead before v u size hv hu = record {
  kept = λ x y e. go x y e (ℕ_discrete x v);
  new = rw (get_or-set_same before v (bit_or (get_or before v 0) (1 * 2 ^ u % 65536)) 0 (omega arith)) (in_new (get_or before v 0) u hu);
}
  where
    go : (x y : ℕ) → leads_to before x y ≡ true → Dec (x ≡ v) → leads_to (set before v (bit_or (get_or before v 0) (1 * 2 ^ u % 65536))) x y ≡ true
    go x y e (yes q) =
        rw (q, get_or-set_same before v (bit_or (get_or before v 0) (1 * 2 ^ u % 65536)) 0 (omega arith))
        (in_either (get_or before v 0) (1 * 2 ^ u % 65536) y (rw q at e))
    go x y e (no n) = rw (get_or-set_other before v x (bit_or (get_or before v 0) (1 * 2 ^ u % 65536)) 0 n) e

-- ---- sets that grow

-- what each step keeps is kept
pub grown_keeps : (R : ℕ → ℕ → Type 0) (P : ℕ → Type 0) → ((x y : ℕ) → P x → R x y → P y) → (a b : ℕ) → P a → Grown R a b → P b
grown_keeps R P step a _ p started = p
grown_keeps R P step a _ p (grew x y g r) = step x y (grown_keeps R P step a x p g) r

-- ---- nodes on no circle of leads

pub off_none : (lead : List ℕ) → OffLeads lead 0
off_none lead = record { none_in = λ C o v e. absurd (in_none v e) }

-- a node joins that leads to none but such nodes
pub off_more : (lead : List ℕ) (off v : ℕ) → v < 16 → OffLeads lead off → bit_or (get_or lead v 0) off ≡ off → OffLeads lead (bit_or off (1 * 2 ^ v % 65536))
off_more lead off v h O e = record { none_in = λ C o x i. ⊎_elim (O.none_in C o x) (λ (q : v ≡ x). ap C (sym q) ∙ go C o (C v) refl) (in_old off v h x i) }
  where
    go : (C : ℕ → Bool) → Circular lead C → (t : Bool) → C v ≡ t → C v ≡ false
    go C o false f = f
    go C o true f =
        let r = o.on v f in
        let i : among off r.0 ≡ true = rw e at (in_either (get_or lead v 0) off r.0 r.2) in
        absurd (both r.1 (O.none_in C o r.0 i))

module _ (lead : List ℕ) (off v met : ℕ) (M : Met lead off v met) where
  pub met_off : (bit off v ≡ 0 → ⊥) → Met lead off (v + 1) met
  met_off n = record { led = λ x u l f e. go x u l f e (ℕ_discrete x v) }
    where
      go : (x u : ℕ) → x < v + 1 → among off x ≡ false → leads_to lead x u ≡ true → Dec (x ≡ v) → among met u ≡ true
      go x u l f e (yes q) = absurd (both (eq-eqb (bit off v) 1 (omega (arith, n, bit_lt off v))) (rw q at f))
      go x u l f e (no d) = M.led x u (omega arith) f e

  pub met_more : Met lead off (v + 1) (bit_or met (get_or lead v 0))
  met_more = record { led = λ x u l f e. go x u l f e (ℕ_discrete x v) }
    where
      go : (x u : ℕ) → x < v + 1 → among off x ≡ false → leads_to lead x u ≡ true → Dec (x ≡ v) → among (bit_or met (get_or lead v 0)) u ≡ true
      go x u l f e (yes q) = rw or_comm (in_either (get_or lead v 0) met u (rw q at e))
      go x u l f e (no n) = in_either met (get_or lead v 0) u (M.led x u (omega arith) f e)

-- a node joins to which none but such nodes lead
pub off_unmet : (lead : List ℕ) (off met : ℕ) → OffLeads lead off → Met lead off 16 met → OffLeads lead (bit_or off (65535 - met))
off_unmet lead off met O M = record { none_in = λ C o v i. go C o v (among off v) refl (C v) refl (rw (or_bits off (65535 - met) v) at i) }
  where
    unmet : (v : ℕ) → v < 16 → among met v ≡ true → among (65535 - met) v ≡ true → Dec (met < 65536) → ⊥
    unmet v l g i (yes h) = both i (not_bits 16 met v h l ∙ ap not g)
    unmet v l g i (no h) = let z : 65535 - met ≡ 0 = omega arith in in_none v (rw z at i)

    free : (C : ℕ → Bool) → Circular lead C → (u : ℕ) → C u ≡ true → (b : Bool) → among off u ≡ b → among off u ≡ false
    free C o u c true q = absurd (both c (O.none_in C o u q))
    free C o u c false q = q

    go : (C : ℕ → Bool) → Circular lead C → (v : ℕ) → (a : Bool) → among off v ≡ a → (t : Bool) → C v ≡ t → a || among (65535 - met) v ≡ true → t ≡ false
    go C o v true e t f i = sym f ∙ O.none_in C o v e
    go C o v false e false f i = refl
    go C o v false e true f i =
        let r = o.back v f in
        let g : among met v ≡ true = M.led r.0 v (o.small r.0 r.1) (free C o r.0 r.1 (among off r.0) refl) r.2 in
        absurd (unmet v (o.small v f) g i (dec_lt met 65536))

-- ---- nodes that lead to w

module _ (lead : List ℕ) (to v more : ℕ) (F : Widened lead to v more) where
  wider : (after : ℕ) → ((x : ℕ) → among more x ≡ true → among after x ≡ true)
      → ((u : ℕ) → leads_to lead v u ≡ true → among to u ≡ true → among after v ≡ true) → Widened lead to (v + 1) after
  wider after kept f = record { kept = λ x e. kept x (F.kept x e); back = λ x u h e i. go x u h e i (ℕ_discrete x v) }
    where
      go : (x u : ℕ) → x < v + 1 → leads_to lead x u ≡ true → among to u ≡ true → Dec (x ≡ v) → among after x ≡ true
      go x u h e i (yes q) = rw q (f u (rw q at e) i)
      go x u h e i (no n) = kept x (F.back x u (omega arith) e i)

  pub widened_more : v < 16 → Widened lead to (v + 1) (bit_or more (1 * 2 ^ v % 65536))
  widened_more h = wider (bit_or more (1 * 2 ^ v % 65536)) (λ x. in_either more (1 * 2 ^ v % 65536) x) (λ u e i. in_new more v h)

  pub widened_same : bit_and (get_or lead v 0) more ≡ 0 → Widened lead to (v + 1) more
  widened_same e = wider more (λ x i. i) (λ u f i. absurd (in_none u (rw e at (in_both (get_or lead v 0) more u f (F.kept u i)))))

-- w itself
pub toward_start : (w : ℕ) → w < 16 → among (1 * 2 ^ (w % 16) % 65536) w ≡ true
toward_start w h = rw (mod-eq_of_lt h) (in_alone w h)

-- what grows no more is all
pub toward_settled : (lead : List ℕ) (w to more : ℕ) → (w < 16 → among to w ≡ true) → Widened lead to 16 more → more ≡ to → TowardLeads lead w to
toward_settled lead w to more s F e = record { start = s; back = λ v u h f i. rw e at (F.back v u h f i) }

-- ---- the walks of all atoms

pub together : {hall : Hall} → WholeBy hall → Together hall.plan.link hall.label hall.owner
together W = record { agrees = W.agrees; starts = starts _ _ _ W; ends = ends_of _ _ _ W }

-- no move leads on from a node that is none of 16
past : (owner : List ℕ) (end : ℕ → ℕ) (k v u : ℕ) → 16 ≤ v → move (next_in owner k) end (at v) ≡ at u → ⊥
unfolding move leave next_in
past owner end k v u h e = clash (cc (le-ltb v 16 h, e))

module _ (hall : Hall) (lead owner : List ℕ) (L : Leads hall 64 lead) (T : Together hall.plan.link hall.label owner) (k : ℕ) (hk : k < 512) where
  -- one move goes by a link that has the atom, so it is a lead
  by_link : (v u : ℕ) → move (next_in owner k) (end_in hall.plan.link) (at v) ≡ at u → v < 16 → (owner_in owner k v ≡ 0 → ⊥)
      → end_in hall.plan.link (owner_in owner k v / 512 % 64) < 256 → (u < 16) × (leads_to lead v u ≡ true)
  unfolding end_in
  by_link v u e h n l =
      let x : ℕ = owner_in owner k v / 512 % 64 in
      let small : x < 64 = omega arith in
      let near : get_or hall.plan.link x 0 % 1024 < 16 = T.ends.inside k v hk h n l in
      let to : get_or hall.plan.link x 0 % 1024 ≡ u = cc (to_node owner k v h (end_in hall.plan.link) n l, e) in
      let way : via (owner_in owner k v) ≡ x = via_named (owner_in owner k v) n in
      let from : get_or hall.plan.link x 0 / 1024 ≡ v = sym (ap (λ (y : ℕ). get_or hall.plan.link y 0 / 1024) way) ∙ T.starts.here k v hk h n in
      let has : on hall.label x k ≡ true =
      T.agrees.bits x k small hk ∙ ap (λ (y : ℕ). eqb (via (owner_in owner k y)) x) from ∙ eq-eqb (via (owner_in owner k v)) x way in
      let lead-on = L.by x k small hk has (omega arith) near in
      (omega arith, sym (ap₂ (leads_to lead) from to) ∙ lead-on)

  moved : (v u : ℕ) → move (next_in owner k) (end_in hall.plan.link) (at v) ≡ at u → (u < 16) × (leads_to lead v u ≡ true)
  moved v u e = go (dec_lt v 16)
    where
      ended : v < 16 → (owner_in owner k v ≡ 0 → ⊥) → Dec (end_in hall.plan.link (owner_in owner k v / 512 % 64) < 256) → (u < 16) × (leads_to lead v u ≡ true)
      ended h n (yes l) = by_link v u e h n l
      ended h n (no l) = absurd (to_end owner k v h (end_in hall.plan.link) n (omega arith) u e)

      owned : v < 16 → Dec (owner_in owner k v ≡ 0) → (u < 16) × (leads_to lead v u ≡ true)
      owned h (yes q) = absurd (no_owner owner k v h (end_in hall.plan.link) q u e)
      owned h (no n) = ended h n (dec_lt (end_in hall.plan.link (owner_in owner k v / 512 % 64)) 256)

      go : Dec (v < 16) → (u < 16) × (leads_to lead v u ≡ true)
      go (yes h) = owned h (ℕ_discrete (owner_in owner k v) 0)
      go (no h) = absurd (past owner (end_in hall.plan.link) k v u (omega arith) e)

  -- it goes from one of 16 nodes
  from_node : (v u : ℕ) → move (next_in owner k) (end_in hall.plan.link) (at v) ≡ at u → v < 16
  from_node v u e = ⊎_elim (λ (h : 16 ≤ v). absurd (past owner (end_in hall.plan.link) k v u h e)) (λ (h : v < 16). h) (le_or_lt 16 v)

  -- so a node on a circle leads to a node on a circle, and is led to by one
  circular : (n : ℕ) → Circular lead (on_circle (next_in owner k) (end_in hall.plan.link) n)
  unfolding on_circle after
  circular n = record { small = λ v e. first v (turns v e); on = λ v e. next v (turns v e); back = λ v e. last v (turns v e) }
    where
      Turns : ℕ → Type 0
      Turns v = (i : ℕ) × (i < n) × (stands_at v (after (next_in owner k) (end_in hall.plan.link) (suc i) (at v)) ≡ true)

      turns : (v : ℕ) → on_circle (next_in owner k) (end_in hall.plan.link) n v ≡ true → Turns v
      turns v = any_some (λ i. stands_at v (after (next_in owner k) (end_in hall.plan.link) (suc i) (at v))) n

      -- what the circle passes lies on it
      passed : (v : ℕ) → (r : Turns v) → (i u : ℕ) → after (next_in owner k) (end_in hall.plan.link) i (at v) ≡ at u → on_circle (next_in owner k) (end_in hall.plan.link) n u ≡ true
      passed v r i u e =
          any_true (λ i. stands_at u (after (next_in owner k) (end_in hall.plan.link) (suc i) (at u))) n r.0 r.1
          (at_stands u _ (round_again (next_in owner k) (end_in hall.plan.link) v (suc r.0) i u (stands_at_lem v _ r.2) e))

      first : (v : ℕ) → Turns v → v < 16
      first v r =
          let step = going_le (next_in owner k) (end_in hall.plan.link) (at v) 1 (suc r.0) (omega arith) (v, stands_at_lem v _ r.2) in
          from_node v step.0 step.1

      next : (v : ℕ) → Turns v → (u : ℕ) × (on_circle (next_in owner k) (end_in hall.plan.link) n u ≡ true) × (leads_to lead v u ≡ true)
      next v r =
          let step = going_le (next_in owner k) (end_in hall.plan.link) (at v) 1 (suc r.0) (omega arith) (v, stands_at_lem v _ r.2) in
          (step.0, passed v r 1 step.0 step.1, (moved v step.0 step.1).1)

      last : (v : ℕ) → Turns v → (u : ℕ) × (on_circle (next_in owner k) (end_in hall.plan.link) n u ≡ true) × (leads_to lead u v ≡ true)
      last v r =
          let step = going_le (next_in owner k) (end_in hall.plan.link) (at v) r.0 (suc r.0) (omega arith) (v, stands_at_lem v _ r.2) in
          let u : ℕ = step.0 in
          let e = sym (ap (move (next_in owner k) (end_in hall.plan.link)) step.1) ∙ sym (after_suc (next_in owner k) (end_in hall.plan.link) r.0 (at v)) ∙ stands_at_lem v _ r.2 in
          (u, passed v r r.0 u step.1, (moved u v e).1)

  pub off_of : (n off : ℕ) → OffLeads lead off → Off (next_in owner k) (end_in hall.plan.link) n off
  off_of n off O = record { none_on = O.none_in (on_circle (next_in owner k) (end_in hall.plan.link) n) (circular n) }

  pub comes_of : (w to : ℕ) → TowardLeads lead w to → ComesBy (next_in owner k) (end_in hall.plan.link) w to
  unfolding after
  comes_of w to F = record { from = λ x h r. go r.0 x h r.1 }
    where
      go : (i x : ℕ) → x < 16 → after (next_in owner k) (end_in hall.plan.link) i (at x) ≡ at w → among to x ≡ true
      go zero x h e = let q : x ≡ w = cc in rw q (F.start (omega arith))
      go (suc i) x h e =
          let step = going_le (next_in owner k) (end_in hall.plan.link) (at x) 1 (suc i) (omega arith) (w, e) in
          let m = moved x step.0 step.1 in
          F.back x step.0 h m.1 (go i step.0 m.0 (sym (ap (after (next_in owner k) (end_in hall.plan.link) i) step.1) ∙ e))

pub off_walks : (hall : Hall) (lead : List ℕ) (off : ℕ) → Leads hall 64 lead → OffLeads lead off → OffWalks hall off
off_walks hall lead off L O = record { each = λ owner T n k hk. off_of hall lead owner L T k hk n off O }

pub toward_walks : (hall : Hall) (lead : List ℕ) (w to : ℕ) → Leads hall 64 lead → TowardLeads lead w to → TowardWalks hall w to
toward_walks hall lead w to L F = record { each = λ owner T k hk. comes_of hall lead owner L T k hk w to F }

-- a walk that stands at a node of which no walk comes to w, and stood at other nodes than w before, does not come to w
pub strayed : (next : ℕ → Option ℕ) (end : ℕ → ℕ) (v w i u to : ℕ) → after next end i (at v) ≡ at u → NotYet next end v w i
    → ComesBy next end w to → u < 16 → bit to u ≡ 0 → (n : ℕ) → comes_to next end n v w ≡ false
unfolding comes_to
strayed next end v w i u to here before C h e n = go (comes_to next end n v w) refl
  where
    later : (k : ℕ) → i ≤ k → after next end k (at v) ≡ at w → ⊥
    later k l f =
        let q : i + (k - i) ≡ k = omega arith in
        let r = sym (ap (after next end (k - i)) here) ∙ sym (after_add next end i (k - i) (at v)) ∙ ap (λ (j : ℕ). after next end j (at v)) q ∙ f in
        omega (arith, e, eqb-true (bit to u) 1 (C.from u h (k - i, r)))

    go : (t : Bool) → comes_to next end n v w ≡ t → t ≡ false
    go false f = refl
    go true f =
        let r = any_some (λ k. stands_at w (after next end k (at v))) n f in
        absurd (⊎_elim (λ (l : i ≤ r.0). later r.0 l (stands_at_lem w _ r.2)) (λ (l : r.0 < i). both r.2 (before r.0 l)) (le_or_lt i r.0))

-- ---- the answers

-- where no node lies on a circle of leads, there is no loop
pub no_loop : {hall : Hall} → WholeBy hall → (off : ℕ) → OffWalks hall off → off ≡ 65535 → by_address (state_of hall) loop ≡ NoLoop
no_loop {hall} W off O e =
    loop_none _ _ _ W (λ p h u l.
    (O.each hall.owner (together W) hall.plan.nodes (get_or hall.atoms.number p 0) (small_atom _ _ _ W p h)).none_on u
    (rw e (in_all u (omega (arith, W.sound.laid.small)))))

-- where no leads go from v to w, no walk does
pub no_reach : {hall : Hall} → WholeBy hall → (v w to : ℕ) → TowardWalks hall w to → v < 16 → bit to v ≡ 0 → by_address (state_of hall) (reach v w) ≡ No
unfolding after
no_reach {hall} W v w to F h e =
    reach_none _ _ _ W v w (λ q l.
    strayed _ _ v w 0 v to refl (λ k b. absurd (omega arith)) (F.each hall.owner (together W) (get_or hall.atoms.number q 0) (small_atom _ _ _ W q l)) h e hall.plan.nodes)
