-- The boundaries after any records are 0, the end of the range and both ends of each rule accepted since the start; removal keeps them.
-- So an insert adds as many as check 13 counts. Assumes nothing.
use mathlib.Core.Path.{◌≡◌, refl, sym, ap, ◌∙◌, subst}
use mathlib.Core.Logic.{◌↔◌, ◌⊎◌, inl, inr, ⊎_elim}
use mathlib.Core.Bool.{Bool, true, false}
use mathlib.Core.Option.{none}
use mathlib.Core.List.{List}
use Prim.Native.Nat.{ℕ, zero, suc, ◌+◌, ◌-◌, ◌^◌, ◌≤◌, ◌<◌}
use native.Mathlib.Omega.{arith}
use lib.Pow.{pow_pos}
use lib.ListN.{get_or}
use Rattle.meaning.specs.declared.Answer.{Answer}
use Rattle.meaning.specs.declared.Answer.TheVariants.{Changed}
use Rattle.meaning.specs.declared.Record.{Record}
use Rattle.meaning.specs.Search.{pick}
use Rattle.meaning.specs.Hall.{top, State, empty, fresh, ipv4}
use Rattle.meaning.specs.Rule.{rule_word, lower, upper, span}
use Rattle.meaning.specs.Atoms.{place_of, is_cut, insert_at, split_cut, split_count, with_cut, is_boundary}
use Rattle.meaning.specs.Questions.{by_address}
use Rattle.meaning.specs.Records.{got, read_of, Update, insert, remove, Question, Sort, set_up, update, question, sort_of}
use Rattle.meaning.specs.Step.{Done, added, update_refusal, with_rule, inserted, updated, refusal, leaves, only, answers, accepted, step_with, step_of}
use Rattle.meaning.specs.Run.{Came, start, more}
use Rattle.meaning.specs.Tables.{Cuts, Boundary, Sound, BoundaryOf}
use Rattle.meaning.proofs.records.Begins.{got_once}
use Rattle.meaning.proofs.base.InsertAt.{insert_below, insert_same, insert_over}
use Rattle.meaning.proofs.base.Order.{clash, Order, less, same, more as past, order}
use Rattle.meaning.proofs.atoms.Splits.{within, is_boundary_lem, boundary_is, split_count_lem}
use Rattle.meaning.proofs.records.Checks.{when_none, Clear, clear}
use Rattle.meaning.proofs.records.Fields.{Sized, FitsUpdate, Fits}
use Rattle.meaning.proofs.rules.Words.{lower_of, upper_of}
use Rattle.meaning.proofs.sound.Sound.{came_fits, top_is}
use Rattle.meaning.proofs.sound.Kept.{rule_fits, RoomForEnds, room_for, room_lower, keeps_lower, missing, count_lower, room_upper, ends_keep, has_lower, has_upper, sound}
use Rattle.meaning.proofs.records.Steps.{Stepped, short, ended, unread, turned, took, stepped}

-- a split makes b a boundary and no other number
split_only : (top : ℕ) (cut : List ℕ) (n b : ℕ) → Cuts top cut n → b ≤ top → (is_cut cut n b ≡ false → n < 512) → (x : ℕ)
    → Boundary (split_cut cut n b) (split_count cut n b) x → (x ≡ b) ⊎ Boundary cut n x
unfolding split_cut split_count
split_only top cut n b w bt room x = go (is_cut cut n b) refl
  where
    p : ℕ
    p = place_of cut n b

    new : is_cut cut n b ≡ false → (h : Boundary (insert_at (p + 1) b cut) (n + 1) x) → Order h.place (p + 1) → (x ≡ b) ⊎ Boundary cut n x
    new e h (less g) =
        inr (record { place = h.place; within = omega (arith, within w bt e); is = sym (insert_below (p + 1) b h.place cut g) ∙ h.is })
    new e h (same g) =
        inl (sym h.is ∙ ap (λ (q : ℕ). get_or (insert_at (p + 1) b cut) q 0) g ∙ insert_same (p + 1) b cut (omega (arith, within w bt e, w.long, w.room)))
    new e h (past g) =
        inr (record { place = h.place - 1; within = omega (arith, h.within); is = sym (insert_over (p + 1) b h.place cut g (omega (arith, h.within, w.long, room e))) ∙ h.is })

    go : (t : Bool) → is_cut cut n b ≡ t → Boundary (pick t cut (insert_at (p + 1) b cut)) (pick t n (n + 1)) x → (x ≡ b) ⊎ Boundary cut n x
    go true e h = inr h
    go false e h = new e h (order h.place (p + 1))

-- ---- an accepted insert

module _ (m : State) (S : Sound m) (r l p n t : ℕ) (F : Sized m.width l p t) (C : Clear m r l p n t) where
  abbrev w : ℕ
  w = rule_word m.width l p n t

  abbrev M : State
  M = with_cut m (lower m.width w)

  abbrev N : State
  N = inserted m r w

  R : RoomForEnds m w
  R = room_for m S F C

  from_is : lower m.width w ≡ p
  from_is = lower_of (rule_fits S F C)

  to_is : upper m.width w ≡ p + span m.width n
  to_is = upper_of (rule_fits S F C)

  -- both ends are boundaries then, what was one still is, and nothing else has become one
  insert_keeps : (x : ℕ) → BoundaryOf m x → BoundaryOf N x
  unfolding inserted with_rule
  insert_keeps = ends_keep m S w R

  insert_has : (x : ℕ) → (x ≡ p) ⊎ (x ≡ p + span m.width n) → BoundaryOf N x
  unfolding inserted with_rule
  insert_has x (inl e) = subst (BoundaryOf N) (from_is ∙ sym e) (has_lower m S w R)
  insert_has x (inr e) = subst (BoundaryOf N) (to_is ∙ sym e) (has_upper m S w R)

  -- what each of the two splits makes a boundary
  lower_only : (x : ℕ) → BoundaryOf M x → (x ≡ lower m.width w) ⊎ BoundaryOf m x
  unfolding with_cut
  lower_only = split_only (top m) m.atoms.cut m.atoms.count (lower m.width w) S.cuts R.lower_top (room_lower m S w R)

  upper_only : (x : ℕ) → BoundaryOf N x → (x ≡ upper m.width w) ⊎ BoundaryOf M x
  unfolding inserted with_rule with_cut
  upper_only = split_only (top m) M.atoms.cut M.atoms.count (upper m.width w) (keeps_lower m S w R).cuts R.upper_top (room_upper m S w R)

  insert_only : (x : ℕ) → BoundaryOf N x → ((x ≡ p) ⊎ (x ≡ p + span m.width n)) ⊎ BoundaryOf m x
  insert_only x h =
      ⊎_elim (λ (e : x ≡ upper m.width w). inl (inr (e ∙ to_is))) (λ (g : BoundaryOf M x).
      ⊎_elim (λ (e : x ≡ lower m.width w). inl (inl (e ∙ from_is))) inr (lower_only x g)) (upper_only x h)

  -- so the count of check 13 is exact: as many boundaries are added as it says
  pub same_cut : is_boundary M (upper m.width w) ≡ is_boundary m (upper m.width w)
  same_cut = go _ refl _ refl
    where
      go : (x : Bool) → is_boundary M (upper m.width w) ≡ x → (y : Bool) → is_boundary m (upper m.width w) ≡ y → x ≡ y
      go true e true f = refl
      go true e false f =
          ⊎_elim (λ (q : upper m.width w ≡ lower m.width w). absurd (omega (arith, from_is, to_is, pow_pos (m.width - n))))
          (λ (g : BoundaryOf m (upper m.width w)). sym (boundary_is S.cuts (upper m.width w) g) ∙ f)
          (lower_only (upper m.width w) (is_boundary_lem M.atoms.cut M.atoms.count (upper m.width w) e))
      go false e y f = sym (missing m S w R e) ∙ f

  pub insert_count : N.atoms.count ≡ m.atoms.count + added m w
  unfolding inserted with_rule with_cut added
  insert_count =
      split_count_lem (top m) M.atoms.cut M.atoms.count (upper m.width w) (keeps_lower m S w R).cuts R.upper_top (room_upper m S w R)
      ∙ ap (λ (x : Bool). M.atoms.count + pick x 0 1) same_cut ∙ (let e = count_lower m S w R in omega (arith, e))

-- ---- since the start

-- b is an end of the rule that an update inserts
unfoldable pub IsEnd : ℕ → Update → ℕ → Type 0
IsEnd width (insert r l p n t) b = (b ≡ p) ⊎ (b ≡ p + span width n)
IsEnd width (remove r) b = ⊥

-- the step on the bytes s accepts a rule that has an end at b
pub record EndsAt (m : State) (room : ℕ) (s : List ℕ) (b : ℕ) : Type 0 where
  pub taken : Record
  pub bytes : ℕ
  pub rule : Update
  pub count : ℕ
  pub reads : read_of s ≡ got taken bytes
  pub updates : sort_of taken ≡ update rule
  pub ok : (step_of m room s).answer ≡ Changed count
  pub end : IsEnd m.width rule b

-- b is an end of a rule accepted since the start, on the way by which a state came
unfoldable pub Ended : {m : State} → Came m → ℕ → Type 0
Ended start b = ⊥
Ended (more {m = m} room s c) b = Ended c b ⊎ EndsAt m room s b

module _ (m : State) (S : Sound m) (x : ℕ) where
  abbrev Was : Type 0
  Was = BoundaryOf m x

  abbrev Is : State → Type 0
  Is n = BoundaryOf n x

  update_keeps : (u : Update) → FitsUpdate m.width u → update_refusal m u ≡ none → Was → Is (updated m u)
  unfolding updated with_rule FitsUpdate
  update_keeps (insert r l p n t) f ok h = insert_keeps m S r l p n t f (clear m r l p n t ok) x h
  update_keeps (remove r) f ok h = h

  update_has : (u : Update) → FitsUpdate m.width u → update_refusal m u ≡ none → IsEnd m.width u x → Is (updated m u)
  unfolding updated FitsUpdate IsEnd
  update_has (insert r l p n t) f ok h = insert_has m S r l p n t f (clear m r l p n t ok) x h
  update_has (remove r) f ok h = absurd h

  update_only : (u : Update) → FitsUpdate m.width u → update_refusal m u ≡ none → Is (updated m u) → IsEnd m.width u x ⊎ Was
  unfolding updated with_rule FitsUpdate IsEnd
  update_only (insert r l p n t) f ok h = insert_only m S r l p n t f (clear m r l p n t ok) x h
  update_only (remove r) f ok h = inr h

  -- what a record leaves: its ends have come up, where it is an update
  record_keeps : (r : Sort) → Fits m.width r → refusal m r ≡ none → Was → Is (leaves m r)
  unfolding refusal leaves Fits
  record_keeps (set_up u) f ok h = h
  record_keeps (update u) f ok h = update_keeps u f ok h
  record_keeps (question q) f ok h = h

  -- and where an end has come up, the record is an update and so is its answer
  record ComesUp (ask : Question → Answer) (r : Sort) : Type 0 where
    rule : Update
    is : r ≡ update rule
    count : ℕ
    answer : answers ask m r ≡ Changed count
    end : IsEnd m.width rule x

  record_only : (ask : Question → Answer) (r : Sort) → Fits m.width r → refusal m r ≡ none → Is (leaves m r) → ComesUp ask r ⊎ Was
  unfolding refusal leaves Fits answers
  record_only ask (set_up u) f ok h = inr h
  record_only ask (update u) f ok h = ⊎_elim (λ e. inl (record { rule = u; is = refl; count = _; answer = refl; end = e })) inr (update_only u f ok h)
  record_only ask (question q) f ok h = inr h

  module _ (c : Came m) (room : ℕ) (s : List ℕ) where
    step_keeps : Was → Is (step_of m room s).left
    unfolding step_of only accepted
    step_keeps h = go _ (stepped (by_address m) m room s)
      where
        go : (d : Done) → Stepped (by_address m) m room s d → Is d.left
        go d (short l) = h
        go d (ended l g) = h
        go d (unread k l g o) = h
        go d (turned r n k l g pos f b) = h
        go d (took r n l g pos f) = let y = when_none _ _ _ f in record_keeps (sort_of r) (came_fits c s r n g) y.1 h

    step_only : Is (step_of m room s).left → EndsAt m room s x ⊎ Was
    unfolding step_of only accepted
    step_only = go _ (stepped (by_address m) m room s) refl
      where
        go : (d : Done) → Stepped (by_address m) m room s d → step_with (by_address m) m room (read_of s) ≡ d → Is d.left → EndsAt m room s x ⊎ Was
        go d (short l) e h = inr h
        go d (ended l g) e h = inr h
        go d (unread k l g o) e h = inr h
        go d (turned r n k l g pos f b) e h = inr h
        go d (took r n l g pos f) e h =
            let y = when_none _ _ _ f in
            ⊎_elim (λ (z : ComesUp (by_address m) (sort_of r)).
            inl (record { taken = r; bytes = n; rule = z.rule; count = z.count; reads = g; updates = z.is; ok = ap (λ (d : Done). d.answer) e ∙ z.answer; end = z.end })) inr
            (record_only (by_address m) (sort_of r) (came_fits c s r n g) y.1 h)

    step_has : EndsAt m room s x → Is (step_of m room s).left
    unfolding step_of only accepted refusal leaves Fits
    step_has E = go _ (stepped (by_address m) m room s) E.ok
      where
        go : (d : Done) → Stepped (by_address m) m room s d → d.answer ≡ Changed E.count → Is d.left
        go d (short l) e = clash cc
        go d (ended l g) e = clash cc
        go d (unread k l g o) e = clash cc
        go d (turned r n k l g pos f b) e = clash cc
        go d (took r n l g pos f) e =
            let y = when_none _ _ _ f in
            let q : E.taken ≡ r = (got_once (sym E.reads ∙ g)).0 in
            let u : sort_of r ≡ update E.rule = ap sort_of (sym q) ∙ E.updates in
            rw u (update_has E.rule (rw u at (came_fits c s r n g)) (rw u at y.1) E.end)

fresh_only : (b : ℕ) → BoundaryOf fresh b → (b ≡ 0) ⊎ (b ≡ 2 ^ ipv4)
unfolding empty
fresh_only b h = go h.place h.within h.is
  where
    go : (p : ℕ) → p ≤ 1 → get_or fresh.atoms.cut p 0 ≡ b → (b ≡ 0) ⊎ (b ≡ 2 ^ ipv4)
    go zero l e = inl (sym e)
    go (suc zero) l e = inr (sym e)
    go (suc (suc p)) l e = absurd (omega arith)

came_from : (b : ℕ) (m : State) (c : Came m) → BoundaryOf m b → ((b ≡ 0) ⊎ (b ≡ 2 ^ ipv4)) ⊎ Ended c b
unfolding Ended
came_from b m start h = inl (fresh_only b h)
came_from b m (more {m = o} room s c) h = go (step_only o (sound o c) b c room s h) (λ g. came_from b o c g)
  where
    go : EndsAt o room s b ⊎ BoundaryOf o b → (BoundaryOf o b → ((b ≡ 0) ⊎ (b ≡ 2 ^ ipv4)) ⊎ Ended c b) → ((b ≡ 0) ⊎ (b ≡ 2 ^ ipv4)) ⊎ (Ended c b ⊎ EndsAt o room s b)
    go (inl e) f = inr (inr e)
    go (inr h) f = ⊎_elim inl (λ e. inr (inl e)) (f h)

stays : (b : ℕ) (m : State) (c : Came m) → Ended c b → BoundaryOf m b
unfolding Ended
stays b m start h = absurd h
stays b m (more {m = o} room s c) (inl h) = step_keeps o (sound o c) b c room s (stays b o c h)
stays b m (more {m = o} room s c) (inr h) = step_has o (sound o c) b c room s h

-- THE LAW: the boundaries are 0, the end of the range, and both ends of each rule accepted since the start; so removal keeps them
pub boundaries : (m : State) (c : Came m) (b : ℕ) → BoundaryOf m b ↔ (((b ≡ 0) ⊎ (b ≡ top m)) ⊎ Ended c b)
boundaries m c b = (λ h. rw (top_is c) (came_from b m c h), back)
  where
    W : Cuts (top m) m.atoms.cut m.atoms.count
    W = (sound m c).cuts

    back : ((b ≡ 0) ⊎ (b ≡ top m)) ⊎ Ended c b → BoundaryOf m b
    back (inl (inl e)) = record { place = 0; within = omega arith; is = W.first ∙ sym e }
    back (inl (inr e)) = record { place = m.atoms.count; within = omega arith; is = W.last ∙ sym e }
    back (inr h) = stays b m c h
