-- Two neighbouring updates with different rule numbers, both accepted in either order: the same rules and the same cutting, so every later
-- step is taken alike. Assumes nothing.
use mathlib.Core.Path.{◌≡◌, refl, sym, ap, ◌∙◌}
use mathlib.Core.Logic.{◌↔◌, ◌⊎◌, inl, inr, ⊎_elim}
use mathlib.Core.List.{List}
use Prim.Native.Nat.{ℕ, zero, suc, ◌≤◌, ◌<◌}
use native.Mathlib.Omega.{arith}
use lib.ListN.{get_or}
use lib.Seq.{ext_get_or, set_comm}
use Rattle.meaning.specs.declared.hall.Phase.TheVariants.{Closed}
use Rattle.meaning.specs.Hall.{top, Plan, State}
use Rattle.meaning.specs.Step.{step_of}
use Rattle.meaning.specs.Run.{Came, more}
use Rattle.meaning.specs.Tables.{Cuts, Boundary, BoundaryOf}
use Rattle.meaning.proofs.base.Order.{le_or_lt}
use Rattle.meaning.proofs.atoms.Cuts.{cut_le}
use Rattle.meaning.proofs.sound.Sound.{width_is, top_is}
use Rattle.meaning.proofs.sound.Kept.{sound}
use Rattle.meaning.proofs.document.Boundaries.{EndsAt, Ended, boundaries}
use Rattle.meaning.proofs.demands.Demands.{Twins, then, Accepts, Call, since, SameStep, EitherOrder, either}
use Rattle.meaning.proofs.demands.Twins.{twins}
use Rattle.meaning.proofs.demands.Accepted.{stored_by, Stores, stores, closed_hall, same_sent}
use Rattle.meaning.proofs.demands.Renumbered.{Alike, alike_since, alike_later}

-- ---- the boundaries determine the cutting

-- where place p begins alike in both and the next boundary of c is one of d, the next of d is no higher
next_low : {top : ℕ} {c d : List ℕ} {n k : ℕ} → Cuts top c n → Cuts top d k → (p : ℕ) → suc p ≤ n → p ≤ k → get_or c p 0 ≡ get_or d p 0
    → Boundary d k (get_or c (suc p) 0) → (suc p ≤ k) × (get_or d (suc p) 0 ≤ get_or c (suc p) 0)
next_low C D p h l e x =
    let up = C.up p (suc p) (omega arith) h in
    let past : p < x.place = ⊎_elim (λ (g : x.place ≤ p). absurd (omega (arith, cut_le D x.place p g l, x.is))) (λ g. g) (le_or_lt x.place p) in
    (omega (arith, x.within), omega (arith, cut_le D (suc p) x.place past x.within, x.is))

module _ {top : ℕ} {c d : List ℕ} {n k : ℕ} (C : Cuts top c n) (D : Cuts top d k)
    (there : (b : ℕ) → Boundary c n b → Boundary d k b) (back : (b : ℕ) → Boundary d k b → Boundary c n b) where
  -- place by place the boundaries are the same
  along : (p : ℕ) → p ≤ n → (p ≤ k) × (get_or c p 0 ≡ get_or d p 0)
  along zero h = (omega arith, C.first ∙ sym D.first)
  along (suc p) h =
      let (l, e) = along p (omega arith) in
      let x = next_low C D p h l e (there _ (record { place = suc p; within = h; is = refl })) in
      let y = next_low D C p x.0 (omega arith) (sym e) (back _ (record { place = suc p; within = x.0; is = refl })) in
      (x.0, omega (arith, x.1, y.1))

-- THE LAW: two cuttings with the same boundaries are the same
pub same_cuts : {top : ℕ} {c d : List ℕ} {n k : ℕ} → Cuts top c n → Cuts top d k → ((b : ℕ) → Boundary c n b ↔ Boundary d k b) → (n ≡ k) × (c ≡ d)
same_cuts {top} {c} {d} {n} {k} C D f = (many, ext_get_or 0 c d (C.long ∙ sym D.long) (λ i h. at i (le_or_lt i n)))
  where
    many : n ≡ k
    many = omega (arith, (along C D (λ b. (f b).0) (λ b. (f b).1) n (omega arith)).0, (along D C (λ b. (f b).1) (λ b. (f b).0) k (omega arith)).0)

    at : (i : ℕ) → (i ≤ n) ⊎ (n < i) → get_or c i 0 ≡ get_or d i 0
    at i (inl h) = (along C D (λ b. (f b).0) (λ b. (f b).1) i h).1
    at i (inr h) = C.rest i h ∙ sym (D.rest i (omega (arith, many)))

-- ---- two updates

module _ (m : State) (first second first' second' : ℕ) (s t : List ℕ) (i j : ℕ) (c : Came m) (apart : i ≡ j → ⊥)
    (one : Accepts m first s i) (two : Accepts (then m first s) second t j) (one' : Accepts m first' t j) (two' : Accepts (then m first' t) second' s i) where
  abbrev x : State
  x = then (then m first s) second t

  abbrev y : State
  y = then (then m first' t) second' s

  came_x : Came x
  came_x = more second t (more first s c)

  came_y : Came y
  came_y = more second' s (more first' t c)

  -- each update stores the same word, whichever comes first
  swapped_first : stored_by (then m first' t).width two'.sent ≡ stored_by m.width one.sent
  swapped_first = rw (same_sent two' one, (stores m first' t j one').width)

  swapped_second : stored_by (then m first s).width two.sent ≡ stored_by m.width one'.sent
  swapped_second = rw (same_sent two one', (stores m first s i one).width)

  swapped_rules : x.rule ≡ y.rule
  swapped_rules =
      rw ((stores (then m first s) second t j two).rule, (stores (then m first' t) second' s i two').rule, swapped_first, swapped_second, (stores m first s i one).rule, (stores m first' t j one').rule)
      (set_comm m.rule i j (stored_by m.width one.sent) (stored_by m.width one'.sent) apart)

  -- an end that one step makes a boundary, the other does too
  moved : (o p : State) (room room' : ℕ) (u : List ℕ) (k : ℕ) → Came o → Came p → Accepts p room' u k → (b : ℕ) → EndsAt o room u b → EndsAt p room' u b
  moved o p room room' u k x y A b e = record {
    taken = e.taken;
    bytes = e.bytes;
    rule = e.rule;
    count = A.count;
    reads = e.reads;
    updates = e.updates;
    ok = A.ok;
    end = rw (width_is y, ← width_is x) e.end;
  }

  same_top : top x ≡ top y
  same_top = top_is came_x ∙ sym (top_is came_y)

  same_boundary : (b : ℕ) → BoundaryOf x b ↔ BoundaryOf y b
  unfolding Ended came_x came_y
  same_boundary b = (λ h. (boundaries y came_y b).1 (there ((boundaries x came_x b).0 h)), λ h. (boundaries x came_x b).1 (back ((boundaries y came_y b).0 h)))
    where
      there : ((b ≡ 0) ⊎ (b ≡ top x)) ⊎ ((Ended c b ⊎ EndsAt m first s b) ⊎ EndsAt (then m first s) second t b)
          → ((b ≡ 0) ⊎ (b ≡ top y)) ⊎ ((Ended c b ⊎ EndsAt m first' t b) ⊎ EndsAt (then m first' t) second' s b)
      there (inl h) = inl (rw (← same_top) h)
      there (inr (inl (inl h))) = inr (inl (inl h))
      there (inr (inl (inr h))) = inr (inr (moved _ _ first second' s i c (more first' t c) two' b h))
      there (inr (inr h)) = inr (inl (inr (moved _ _ second first' t j (more first s c) c one' b h)))

      back : ((b ≡ 0) ⊎ (b ≡ top y)) ⊎ ((Ended c b ⊎ EndsAt m first' t b) ⊎ EndsAt (then m first' t) second' s b)
          → ((b ≡ 0) ⊎ (b ≡ top x)) ⊎ ((Ended c b ⊎ EndsAt m first s b) ⊎ EndsAt (then m first s) second t b)
      back (inl h) = inl (rw same_top h)
      back (inr (inl (inl h))) = inr (inl (inl h))
      back (inr (inl (inr h))) = inr (inr (moved _ _ first' second t j c (more first s c) two b h))
      back (inr (inr h)) = inr (inl (inr (moved _ _ second' first s i (more first' t c) c one b h)))

  -- THE LAW: the cutting is the same
  same_cutting : (x.atoms.count ≡ y.atoms.count) × (x.atoms.cut ≡ y.atoms.cut)
  same_cutting = same_cuts (sound x came_x).cuts (rw same_top (sound y came_y).cuts) same_boundary

  -- what neither of two updates touches
  kept : {A : Type 0} (f : State → A) → ((o p : State) (k w : ℕ) → Stores o p k w → f p ≡ f o) → f x ≡ f y
  kept f h =
      h _ _ _ _ (stores _ second t j two) ∙ h _ _ _ _ (stores _ first s i one)
      ∙ sym (h _ _ _ _ (stores _ first' t j one')) ∙ sym (h _ _ _ _ (stores _ second' s i two'))

  same_alike : Alike x y
  same_alike = record {
    width = kept (λ o. o.width) (λ o p k w S. S.width);
    plan = kept (λ o. o.plan) (λ o p k w S. S.plan);
    rule = swapped_rules;
    count = same_cutting.0;
    cut = same_cutting.1;
  }

  -- so the two histories end with the same live rules,
  same_twins : Twins x y
  same_twins =
      let A = same_alike in
      let ph : x.plan.phase ≡ Closed = ap (λ (p : Plan). p.phase) (stores _ second t j two).plan ∙ closed_hall _ second t j two in
      twins x y came_x came_y ph A.plan A.rule

pub swapped_twins : {x y : State} → EitherOrder x y → Twins x y
swapped_twins (either first second first' second' s t i j c a one two one' two') = same_twins _ first second first' second' s t i j c a one two one' two'

swapped_alike : {x y : State} → EitherOrder x y → Alike x y
swapped_alike (either first second first' second' s t i j c a one two one' two') = same_alike _ first second first' second' s t i j c a one two one' two'

pub swapped_cutting : {x y : State} → EitherOrder x y → (calls : List Call) → ((since x calls).atoms.count ≡ (since y calls).atoms.count) × ((since x calls).atoms.cut ≡ (since y calls).atoms.cut)
swapped_cutting {x} {y} E calls = let A = alike_since calls x y (swapped_alike E) in (A.count, A.cut)

-- THE LAW: every later step is taken alike
pub swapped_later : {x y : State} → EitherOrder x y → (calls : List Call) (room : ℕ) (s : List ℕ) → SameStep (step_of (since x calls) room s) (step_of (since y calls) room s)
swapped_later {x} {y} E = alike_later x y (swapped_alike E)
