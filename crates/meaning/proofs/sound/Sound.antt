-- The empty state is sound, and what every record keeps holds of every state that came by records. Assumes nothing.
use mathlib.Core.Path.{◌≡◌, refl, sym, ap, ◌∙◌}
use mathlib.Core.Logic.{⊎_elim}
use mathlib.Core.List.{List}
use mathlib.Core.Bool.{Bool, true, false, not, true≢false}
use mathlib.Core.Option.{Option, none, some}
use Prim.Native.Nat.{ℕ, ◌^◌, ◌≤◌, ◌<◌}
use native.Mathlib.Nat.{not-suc-le-zero}
use native.Mathlib.Omega.{arith}
use lib.Pow.{pow_pos}
use lib.Dec.{ltb, eqb}
use lib.ListN.{length, get_or, length-set, length-replicate, get_or-eq_default, get_or-replicate}
use lib.Seq.{get_or-set_other}
use borrow.Author.Tests.{eqb-true, not-false}
use Rattle.meaning.specs.declared.Answer.{Answer}
use Rattle.meaning.specs.declared.Answer.TheVariants.{Refused}
use Rattle.meaning.specs.declared.Record.{Record}
use Rattle.meaning.specs.declared.Refusal.{Refusal}
use Rattle.meaning.specs.declared.Refusal.TheVariants.{ShortList, OutOfOrder}
use Rattle.meaning.specs.Search.{pick}
use Rattle.meaning.specs.Hall.{ipv4, top, zeroes, stage, State, empty, fresh}
use Rattle.meaning.specs.Rule.{live}
use Rattle.meaning.specs.Winner.{rule_at}
use Rattle.meaning.specs.Tables.{Cuts, Numbers, Laid, Sound}
use Rattle.meaning.specs.Records.{record_of, Read, got, read_of, Update, insert, remove, Question, Sort, set_up, update, question, sort_of, phase_of}
use Rattle.meaning.specs.Atoms.{with_cut}
use Rattle.meaning.specs.Step.{list_room, when, with_rule, inserted, updated, refusal, leaves, only, accepted, taken, step_for, step_with, step_of}
use Rattle.meaning.specs.Run.{Came, start, more}
use Rattle.meaning.proofs.base.Order.{le_or_lt}
use Rattle.meaning.proofs.base.Stages.{stage_once}
use Rattle.meaning.proofs.records.Begins.{Begins, nothing, unread, whole, begins}
use Rattle.meaning.proofs.records.Fields.{Fits, fits}
use Rattle.meaning.proofs.records.Steps.{reads_fit}

-- ---- what is kept from record to record

-- what an accepted record keeps, a step keeps
module _ (ask : Question → Answer) (P : State → Type 0) (m : State) (room : ℕ) (s : List ℕ) where
  pub step_keeps : ((r : Sort) → Fits ipv4 r → m.plan.phase ≡ phase_of r → refusal m r ≡ none → P (leaves m r)) → P m → P (step_with ask m room (read_of s)).left
  unfolding step_with step_for only taken accepted when
  step_keeps f p = go (ltb room list_room) (read_of s) (begins s)
    where
      r : Sort
      r = sort_of (record_of s)

      last : (n : ℕ) (e : Bool) (o : Option Refusal) → not (eqb (stage m.plan.phase) (stage (phase_of r))) ≡ e → refusal m r ≡ o → P (taken ask m n r (when e OutOfOrder o)).left
      last n true o h g = p
      last n false (some k) h g = p
      last n false none h g = f r (fits s) (stage_once (eqb-true _ _ (not-false _ h))) g

      go : (a : Bool) (x : Read) → Begins s x → P (pick a (only m 0 (Refused ShortList)) (step_for ask m x)).left
      go true x b = p
      go false x (nothing h) = p
      go false x (unread k h) = p
      go false x (whole h) = last _ _ _ refl refl

-- no record changes the width of the addresses
update_width : (m : State) (u : Update) → (updated m u).width ≡ m.width
unfolding updated inserted with_rule with_cut
update_width m (insert r l p n t) = refl
update_width m (remove r) = refl

same_width : (m : State) (r : Sort) → (leaves m r).width ≡ m.width
unfolding leaves
same_width m (set_up u) = refl
same_width m (update u) = update_width m u
same_width m (question q) = refl

-- THE LAW: a box has IPv4 addresses
pub width_is : {m : State} → Came m → m.width ≡ ipv4
unfolding empty step_of
width_is start = refl
width_is (more {m = o} room s c) = step_keeps _ (λ n. n.width ≡ ipv4) o room s (λ r f ph ok. same_width o r ∙ width_is c) (width_is c)

pub top_is : {m : State} → Came m → top m ≡ 2 ^ ipv4
top_is c = ap (λ (w : ℕ). 2 ^ w) (width_is c)

-- so the fields of a record that it reads have their sizes
pub came_fits : {m : State} → Came m → (s : List ℕ) (r : Record) (n : ℕ) → read_of s ≡ got r n → Fits m.width (sort_of r)
came_fits c s r n g = rw (width_is c) (reads_fit s r n g)

pub came_keeps : (P : State → Type 0) → P fresh → ((m : State) (r : Sort) → P m → Fits m.width r → m.plan.phase ≡ phase_of r → refusal m r ≡ none → P (leaves m r))
    → (m : State) → Came m → P m
unfolding step_of
came_keeps P z f m start = z
came_keeps P z f m (more {m = o} room s c) = let h = came_keeps P z f o c in step_keeps _ P o room s (λ r t. f o r h (rw (width_is c) t)) h

-- ---- the empty state

length_zeroes : (n : ℕ) → length (zeroes n) ≡ n
length_zeroes n = length-replicate {A = ℕ} n 0

zeros : (n i : ℕ) → get_or (zeroes n) i 0 ≡ 0
zeros n i =
    ⊎_elim (λ (g : n ≤ i). get_or-eq_default (zeroes n) 0 {n = i} (omega (arith, length_zeroes n))) (λ (g : i < n). get_or-replicate {A = ℕ} n i 0 0 g) (le_or_lt n i)

module _ (width : ℕ) where
  empty_idle : (i : ℕ) → live (rule_at (empty width) i) ≡ false
  unfolding live rule_at empty
  empty_idle i = ap (λ (x : ℕ). not (eqb x 0)) (zeros 256 i)

  empty_cuts : Cuts (2 ^ width) (empty width).atoms.cut (empty width).atoms.count
  unfolding empty
  empty_cuts = record {
    long = length-set (zeroes 513) 1 (2 ^ width) ∙ length_zeroes 513;
    room = omega arith;
    first = refl;
    up = λ p q a b. let e : p ≡ 0 = omega arith in let d : q ≡ 1 = omega arith in rw (e, d) (pow_pos width);
    last = refl;
    rest = λ p a. get_or-set_other (zeroes 513) 1 p (2 ^ width) 0 (λ e. omega arith) ∙ zeros 513 p;
  }

  empty_numbers : Numbers (empty width).atoms.number (empty width).atoms.count
  unfolding empty
  empty_numbers = record {
    long = length_zeroes 512;
    small = λ p a. omega (arith, zeros 512 p);
    apart = λ p q a b e. omega arith;
    rest = λ p a. zeros 512 p;
  }

  empty_laid : Laid (empty width).plan
  unfolding empty
  empty_laid = record {
    long = length_zeroes 64;
    few = omega arith;
    small = omega arith;
    sources = λ l h. absurd (not-suc-le-zero h);
    ends = λ l h. absurd (not-suc-le-zero h);
    unused = λ l h. zeros 64 l;
    bare = λ e. (refl, refl);
  }

  pub empty_sound : 0 < width → Sound (empty width)
  empty_sound w = record {
    wide = unfold empty in w;
    laid = empty_laid;
    cuts = unfold empty in empty_cuts;
    numbers = empty_numbers;
    rules = unfold empty in length_zeroes 256;
    aligned = λ i l e. absurd (true≢false (sym e ∙ empty_idle i));
    named = λ i l e. absurd (true≢false (sym e ∙ empty_idle i));
    distinct = λ i j a b e. absurd (true≢false (sym e ∙ empty_idle i));
    idle = λ h. empty_idle;
  }
