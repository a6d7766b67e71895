-- An update that is refused leaves what its step says: by the list's room, by the hall's phase, or by its own checks. Assumes nothing.
use mathlib.Core.Bool.{Bool, true, false}
use mathlib.Core.List.{List}
use mathlib.Core.Option.{Option, none, some, some-injective, none-ne-some}
use mathlib.Core.Path.{◌≡◌, sym, ap, ◌∙◌}
use Prim.Native.Nat.{ℕ, ◌≤◌, ◌<◌}
use native.Mathlib.Decide.{ℕ_discrete, dec_lt}
use native.Mathlib.Omega.{arith}
use lib.ListN.{length}
use borrow.Author.Tests.{lt-ltb, le-ltb, eq-eqb, ne_eqb}
use Rattle.std.specs.Prelude.{Result, Ok, Err, ⊤}
use Rattle.meaning.specs.declared.Refusal.{Refusal}
use Rattle.meaning.specs.declared.Refusal.TheVariants.{ShortList, OutOfOrder, NoLink, NoRule, RuleLive, RuleNotLive, NoPrefix, Tie, CutsFull}
use Rattle.meaning.specs.declared.hall.Phase.{Phase}
use Rattle.meaning.specs.declared.hall.Phase.TheVariants.{Closed}
use Rattle.meaning.specs.declared.Record.{Record}
use Rattle.meaning.specs.Hall.{stage, State}
use Rattle.meaning.specs.Answers.{number_of}
use Rattle.meaning.specs.Records.{got, Update, insert, remove, sort_of, phase_of}
use Rattle.meaning.specs.Step.{list_room, when, checked, update_refusal}
use Rattle.meaning.specs.Box.{Held, left, left_for}
use Rattle.meaning.proofs.base.Stages.{stage_once}
use Rattle.meaning.proofs.records.Said.{refusal_once}
use Rattle.lent.proofs.Steps.{short_leaves, disorder_leaves}
use Rattle.tables.specs.Outcome.{told, passed_of, unready}

-- after any refusal but that of the list's room the record's bytes are passed: 0 is the number of that one alone
pub all_passed : (n : ℕ) (why : Refusal) → (why ≡ ShortList → ⊥) → passed_of n (Err why) ≡ n
unfolding passed_of
all_passed n why d = rw (ne_eqb (number_of why) 0 (λ e. d (refusal_once why ShortList e)))

-- ---- by the list's room and the hall's phase

-- where nothing refuses any update, the list has its room and the hall is closed
pub is_ready : {p : Phase} (list : List ℕ) {r : Result ⊤ Refusal} {u : ⊤} → r ≡ Ok u → checked r ≡ unready p list → (list_room ≤ length list) × (p ≡ Closed)
unfolding unready when checked
is_ready {p} list is e = go (dec_lt (length list) list_room) (ℕ_discrete (stage p) (stage Closed)) (ap checked (sym is) ∙ e)
  where
    go : Dec (length list < list_room) → Dec (stage p ≡ stage Closed) → none ≡ unready p list → (list_room ≤ length list) × (p ≡ Closed)
    go (yes s) b e = absurd (none-ne-some ShortList (e ∙ rw (lt-ltb (length list) list_room s)))
    go (no s) (yes q) e = (omega arith, stage_once q)
    go (no s) (no d) e = absurd (none-ne-some OutOfOrder (e ∙ rw (le-ltb (length list) list_room (omega arith), ne_eqb (stage p) (stage Closed) d)))

-- where one of the two refuses, that is what the step leaves
pub unready_leaves : {m : State} {label owner list : List ℕ} → Held m label owner → (r : Record) (n : ℕ) → phase_of (sort_of r) ≡ Closed → {x : Result ⊤ Refusal} {why : Refusal} → x ≡ Err why → checked x ≡ unready m.plan.phase list
    → left (told (Err why)) (passed_of n (Err why)) m label owner list ≡ left_for m list (got r n)
unfolding unready when told passed_of checked
unready_leaves {m} {label} {owner} {list} H r n o {why = why} is e =
    go (dec_lt (length list) list_room) (ℕ_discrete (stage m.plan.phase) (stage Closed)) (ap checked (sym is) ∙ e)
  where
    go : Dec (length list < list_room) → Dec (stage m.plan.phase ≡ stage Closed) → some why ≡ unready m.plan.phase list
        → left (told (Err why)) (passed_of n (Err why)) m label owner list ≡ left_for m list (got r n)
    go (yes s) b e =
        let is : why ≡ ShortList = some-injective why _ (e ∙ rw (lt-ltb (length list) list_room s)) in
        rw is (short_leaves m label owner list H (got r n) s)
    go (no s) (yes q) e = absurd (none-ne-some why (sym (e ∙ rw (le-ltb (length list) list_room (omega arith), eq-eqb (stage m.plan.phase) (stage Closed) q))))
    go (no s) (no d) e =
        let is : why ≡ OutOfOrder = some-injective why _ (e ∙ rw (le-ltb (length list) list_room (omega arith), ne_eqb (stage m.plan.phase) (stage Closed) d)) in
        rw is (disorder_leaves m label owner list H (omega arith) r n (λ q. d (ap stage (q ∙ o))))

-- ---- by its own checks, none of which is the list's room

-- one test more
over : (t : Bool) (k why : Refusal) (o : Option Refusal) → (k ≡ ShortList → ⊥) → (some why ≡ o → why ≡ ShortList → ⊥) → some why ≡ when t k o → why ≡ ShortList → ⊥
unfolding when
over true k why o d f e s = d (sym (some-injective why k e) ∙ s)
over false k why o d f e s = f e s

apart : {k : Refusal} → (number_of k ≡ 0 → ⊥) → k ≡ ShortList → ⊥
apart d e = d (ap number_of e)

pub not_short : (m : State) (u : Update) (why : Refusal) → some why ≡ update_refusal m u → why ≡ ShortList → ⊥
unfolding update_refusal
not_short m (insert r l p n t) why =
    over _ NoRule why _ (apart (λ e. omega arith))
    (over _ RuleLive why _ (apart (λ e. omega arith))
    (over _ NoLink why _ (apart (λ e. omega arith))
    (over _ NoPrefix why _ (apart (λ e. omega arith)) (over _ Tie why _ (apart (λ e. omega arith)) (over _ CutsFull why _ (apart (λ e. omega arith)) (λ e s. none-ne-some _ (sym e)))))))
not_short m (remove r) why = over _ NoRule why _ (apart (λ e. omega arith)) (over _ RuleNotLive why _ (apart (λ e. omega arith)) (λ e s. none-ne-some _ (sym e)))
