-- The change list over addresses: an entry lies over an address exactly when the winner at the rule's node changed there, and its links are the
-- links before and after. So what an update changes does not depend on the cutting. Assumes nothing.
use mathlib.Core.Path.{◌≡◌, refl, sym, ap, ◌∙◌}
use mathlib.Core.Logic.{◌↔◌, ◌⊎◌, inl, inr}
use mathlib.Core.Bool.{not}
use mathlib.Core.Option.{none}
use mathlib.Core.List.Memᴰ
use mathlib.Core.List.{List, [], ◌∷◌, ◌++◌, Memᴰ}
use Prim.Native.Nat.{ℕ, ◌+◌, ◌≤◌, ◌<◌}
use native.Mathlib.Omega.{arith}
use lib.ListN.{get_or, set}
use borrow.Author.Tests.{eqb-false, ne_eqb, not-true}
use Rattle.meaning.specs.declared.hall.Phase.TheVariants.{Closed}
use Rattle.meaning.specs.Hall.{top, Plan, State, source_of}
use Rattle.meaning.specs.Rule.{rule_word, lower, upper}
use Rattle.meaning.specs.Winner.{rule_at, winner, link_for, next_at, node_for}
use Rattle.meaning.specs.Atoms.{place_of, with_cut}
use Rattle.meaning.specs.Changes.{link_or_none, changed_at, changed_places, entry_at, entries_at}
use Rattle.meaning.specs.Records.{Update, insert, remove}
use Rattle.meaning.specs.Step.{update_refusal, with_rule, inserted, updated, node_of, listed, changes, step_of}
use Rattle.meaning.specs.Run.{Came, more}
use Rattle.meaning.specs.Tables.{Cuts, Holds, Sound}
use Rattle.meaning.proofs.atoms.Cuts.{place_holds, cut_top}
use Rattle.meaning.proofs.document.Atoms.{constant_in}
use Rattle.meaning.proofs.records.Fields.{Sized, FitsUpdate}
use Rattle.meaning.proofs.records.Checks.{clear}
use Rattle.meaning.proofs.sound.Kept.{room_for, keeps_upper, keeps_update, sound}
use Rattle.meaning.proofs.rules.Covers.{SameRules, cut_alike, winner_same, next_same}
use Rattle.meaning.proofs.atoms.ChangeList.{listed_is}
use Rattle.meaning.proofs.demands.Demands.{then, Accepts, Twins, Lists, here, later, Changes}
use Rattle.meaning.proofs.demands.Twins.{twin_width, twin_plan, twin_rules, twins_same, twins}
use Rattle.meaning.proofs.demands.Accepted.{closed_hall, passes, fit, left_is, written_is, stored_by, Stores, stores, same_sent}

-- ---- a list of entries over addresses

none_listed : {a x y : ℕ} → Lists a x y [] → ⊥
none_listed h = elim h [ ]

first_or_later : {a x y atom low high old new : ℕ} {rest : List ℕ} → Lists a x y (atom ∷ low ∷ high ∷ old ∷ new ∷ rest)
    → ((low ≤ a) × (a < high) × (old ≡ x) × (new ≡ y)) ⊎ Lists a x y rest
first_or_later (here atom low high h g) = inl (h, g, refl, refl)
first_or_later (later atom low high old new h) = inr h

module _ (old new : State) (v a x y : ℕ) where
  -- the entry of place p lies over address a and goes from link x to link y
  record EntryOver (p : ℕ) : Type 0 where
    from : get_or new.atoms.cut p 0 ≤ a
    below : a < get_or new.atoms.cut (p + 1) 0
    was : link_or_none (next_at old (get_or new.atoms.cut p 0) v) ≡ x
    is : link_or_none (next_at new (get_or new.atoms.cut p 0) v) ≡ y

  entry_some : (ps : List ℕ) → Lists a x y (entries_at old new v ps) → (p : ℕ) × Memᴰ p ps × EntryOver p
  unfolding entries_at entry_at
  entry_some [] h = absurd (none_listed h)
  entry_some (p ∷ ps) h = go (first_or_later h) (entry_some ps)
    where
      go : ((get_or new.atoms.cut p 0 ≤ a) × (a < get_or new.atoms.cut (p + 1) 0) × (link_or_none (next_at old (get_or new.atoms.cut p 0) v) ≡ x) × (link_or_none (next_at new (get_or new.atoms.cut p 0) v) ≡ y)) ⊎ Lists a x y (entries_at old new v ps)
          → (Lists a x y (entries_at old new v ps) → (p : ℕ) × Memᴰ p ps × EntryOver p) → (q : ℕ) × Memᴰ q (p ∷ ps) × EntryOver q
      go (inl (f, b, w, i)) ih = (p, Memᴰ.head refl, record { from = f; below = b; was = w; is = i })
      go (inr h) ih = let r = ih h in (r.0, Memᴰ.tail r.1, r.2)

  some_entry : (ps : List ℕ) (p : ℕ) → Memᴰ p ps → EntryOver p → Lists a x y (entries_at old new v ps)
  unfolding entries_at entry_at
  some_entry [] p h e = absurd (Memᴰ.not-nil h)
  some_entry (q ∷ ps) p h e = go (Memᴰ.cases_cons h) (λ k. some_entry ps p k e)
    where
      go : (p ≡ q) ⊎ Memᴰ p ps → (Memᴰ p ps → Lists a x y (entries_at old new v ps)) → Lists a x y (entry_at old new v q ++ entries_at old new v ps)
      go (inl r) ih = let f : EntryOver q = rw r at e in rw (f.was, f.is) (here _ _ _ f.from f.below)
      go (inr k) ih = later _ _ _ _ _ (ih k)

-- ---- two states whose winners are constant on the places of the second

module _ (old new : State) (v : ℕ) (W : Cuts (top new) new.atoms.cut new.atoms.count)
    (before : (p a : ℕ) → Holds new.atoms.cut new.atoms.count a p → winner old v a ≡ winner old v (get_or new.atoms.cut p 0))
    (after : (p a : ℕ) → Holds new.atoms.cut new.atoms.count a p → winner new v a ≡ winner new v (get_or new.atoms.cut p 0)) where
  pub spread : (a x y : ℕ) → Lists a x y (entries_at old new v (changed_places old new v new.atoms.count)) ↔ Changes old new v a x y
  unfolding changed_at next_at
  spread a x y = (there, back)
    where
      ps : List ℕ
      ps = changed_places old new v new.atoms.count

      there : Lists a x y (entries_at old new v ps) → Changes old new v a x y
      there h =
          let r = entry_some old new v a x y ps h in
          let p = r.0 in
          let e = r.2 in
          let l = (listed_is old new v new.atoms.count p).0 r.1 in
          let H : Holds new.atoms.cut new.atoms.count a p = record { within = l.0; from = e.from; below = e.below } in
          record {
            address = omega (arith, e.below, cut_top W (p + 1) (omega (arith, l.0)));
            differs = λ q. eqb-false _ _ (not-true _ l.1) (sym (before p a H) ∙ q ∙ after p a H);
            old = ap (λ (w : ℕ). link_or_none (link_for old w)) (before p a H) ∙ e.was;
            new = ap (λ (w : ℕ). link_or_none (link_for new w)) (after p a H) ∙ e.is;
          }

      back : Changes old new v a x y → Lists a x y (entries_at old new v ps)
      back c =
          let p = place_of new.atoms.cut new.atoms.count a in
          let H = place_holds W a c.address in
          some_entry old new v a x y ps p
          ((listed_is old new v new.atoms.count p).1 (H.within, ap not (ne_eqb _ _ (λ q. c.differs (before p a H ∙ q ∙ sym (after p a H))))))
          (record {
            from = H.from;
            below = H.below;
            was = sym (ap (λ (w : ℕ). link_or_none (link_for old w)) (before p a H)) ∙ c.old;
            is = sym (ap (λ (w : ℕ). link_or_none (link_for new w)) (after p a H)) ∙ c.new;
          })

-- ---- an accepted update

module _ (m : State) (c : Came m) where
  abbrev Spreads : Update → Type 0
  Spreads u = (a x y : ℕ) → Lists a x y (entries_at m (updated m u) (node_of m u) (changes m u)) ↔ Changes m (updated m u) (node_of m u) a x y

  -- an insert first makes its ends boundaries, which changes no winner
  insert_spreads : (r l p n t : ℕ) → Sized m.width l p t → m.plan.phase ≡ Closed → update_refusal m (insert r l p n t) ≡ none → Spreads (insert r l p n t)
  unfolding listed node_of updated
  insert_spreads r l p n t F ph ok =
      spread m (inserted m r w) (source_of m l) after.cuts
      (λ q a H. same a ∙ constant_in cut_up up (source_of m l) q a (unfold inserted with_rule in H) ∙ (unfold inserted with_rule in sym (same _)))
      (constant_in (inserted m r w) after (source_of m l))
    where
      w : ℕ
      w = rule_word m.width l p n t

      S : Sound m
      S = sound m c

      cut_up : State
      cut_up = with_cut (with_cut m (lower m.width w)) (upper m.width w)

      up : Sound cut_up
      up = keeps_upper m S w (room_for m S F (clear m r l p n t ok))

      same : (a : ℕ) → winner m (source_of m l) a ≡ winner cut_up (source_of m l) a
      same a = sym (winner_same (cut_alike _ _) (source_of m l) a ∙ winner_same (cut_alike _ _) (source_of m l) a)

      after : Sound (inserted m r w)
      after = keeps_update m (insert r l p n t) S (unfold FitsUpdate in F) ph ok

  remove_spreads : (r : ℕ) → m.plan.phase ≡ Closed → update_refusal m (remove r) ≡ none → Spreads (remove r)
  unfolding listed node_of updated
  remove_spreads r ph ok =
      spread m (with_rule m r 0) v after.cuts
      (λ q a H. unfold with_rule in constant_in m (sound m c) v q a H)
      (constant_in (with_rule m r 0) after v)
    where
      v : ℕ
      v = node_for m (rule_at m r)

      after : Sound (with_rule m r 0)
      after = keeps_update m (remove r) (sound m c) (unfold FitsUpdate in tt) ph ok

  spreads : (u : Update) → FitsUpdate m.width u → m.plan.phase ≡ Closed → update_refusal m u ≡ none → Spreads u
  unfolding FitsUpdate
  spreads (insert r l p n t) F = insert_spreads r l p n t F
  spreads (remove r) F = remove_spreads r

  -- THE LAW: the list has an entry over an address exactly when the winner at the rule's node changed there, with the links before and after
  pub changes_listed : (room : ℕ) (s : List ℕ) (i : ℕ) (A : Accepts m room s i)
      → (a x y : ℕ) → Lists a x y (step_of m room s).written ↔ Changes m (then m room s) (node_of m A.sent) a x y
  changes_listed room s i A = rw (left_is m room s i A, written_is m room s i A) (spreads A.sent (fit m room s i A c) (closed_hall m room s i A) (passes m room s i A))

-- ---- two histories

-- the same rules and links before, and the same after: the same changes
moved : {m m' n n' : State} → SameRules m n → SameRules m' n' → (v a x y : ℕ) → Changes m m' v a x y → Changes n n' v a x y
moved before after v a x y c = record {
  address = rw (← after.width) c.address;
  differs = λ e. c.differs (winner_same before v a ∙ e ∙ sym (winner_same after v a));
  old = ap link_or_none (sym (next_same before a v)) ∙ c.old;
  new = ap link_or_none (sym (next_same after a v)) ∙ c.new;
}

back_again : {m n : State} → SameRules m n → SameRules n m
back_again s = record { width = sym s.width; rule = sym s.rule; link = sym s.link }

pub node_same : {m n : State} → SameRules m n → (u : Update) → node_of m u ≡ node_of n u
unfolding node_of rule_at source_of
node_same s (insert r l p k t) = rw s.link
node_same s (remove r) = rw (s.rule, s.link, s.width)

module _ (m n : State) (T : Twins m n) (room room' : ℕ) (s : List ℕ) (i : ℕ) (A : Accepts m room s i) (B : Accepts n room' s i) where
  a : Stores m (then m room s) i (stored_by m.width A.sent)
  a = stores m room s i A

  b : Stores n (then n room' s) i (stored_by m.width A.sent)
  b = rw (same_sent A B, twin_width m n T) (stores n room' s i B)

  -- THE LAW: the two histories end with the same live rules again
  pub twins_after : Twins (then m room s) (then n room' s)
  twins_after =
      twins _ _ (more room s T.came.0) (more room' s T.came.1) (ap (λ (p : Plan). p.phase) a.plan ∙ T.closed.0)
      (a.plan ∙ twin_plan m n T ∙ sym b.plan)
      (a.rule ∙ ap (λ (rs : List ℕ). set rs i (stored_by m.width A.sent)) (twin_rules m n T) ∙ sym b.rule)

  -- THE LAW: both lists have the same addresses, from and to the same links
  pub same_listed : (c x y : ℕ) → Lists c x y (step_of m room s).written ↔ Lists c x y (step_of n room' s).written
  same_listed c x y = (
    λ h. there.1 (rw e at (moved before after _ c x y (here_is.0 h))),
    λ h. here_is.1 (rw e (moved (back_again before) (back_again after) _ c x y (there.0 h))),
  )
    where
      before : SameRules m n
      before = twins_same m n T

      after : SameRules (then m room s) (then n room' s)
      after = twins_same _ _ twins_after

      e : node_of m A.sent ≡ node_of n B.sent
      e = node_same before A.sent ∙ ap (node_of n) (same_sent A B)

      here_is : Lists c x y (step_of m room s).written ↔ Changes m (then m room s) (node_of m A.sent) c x y
      here_is = changes_listed m T.came.0 room s i A c x y

      there : Lists c x y (step_of n room' s).written ↔ Changes n (then n room' s) (node_of n B.sent) c x y
      there = changes_listed n T.came.1 room' s i B c x y
