-- One outcome: for each public function of the box, two outcomes that both meet its contract are the same. An outcome is all that the
-- function returns and leaves: its result and each lent table and list at exit. Assumes nothing.
use mathlib.Core.Path.{◌≡◌, sym, ap, ◌∙◌}
use mathlib.Core.List.{List}
use mathlib.Core.Option.{Option, none, some}
use Prim.Native.Nat.{ℕ}
use lib.ListN.{drop}
use Rattle.meaning.specs.declared.Answer.{Answer}
use Rattle.std.specs.Prelude.{Option as Found, Some as At, None as Nothing}
use Rattle.meaning.specs.declared.hall.Hall.{Hall}
use Rattle.meaning.specs.declared.Placed.{Placed}
use Rattle.meaning.specs.declared.Record.{Record}
use Rattle.meaning.specs.Search.{found}
use Rattle.meaning.specs.Hall.{State, fresh}
use Rattle.meaning.specs.Labels.{labels_of, lowest_on}
use Rattle.meaning.specs.Working.{owners_of}
use Rattle.meaning.specs.Records.{Read, read_of, placed_at}
use Rattle.meaning.specs.Step.{reply_to}
use Rattle.meaning.specs.Answers.{said, said_read, said_placed}
use Rattle.meaning.specs.Box.{Left, state_of, left_in, left_for, left_of, ran_of}
use Rattle.meaning.proofs.records.Said.{said_once, read_once, placed_once, left_once}

-- the state and the two tables that it determines give the hall with every table
pub hall_once : (x y : Hall) → state_of x ≡ state_of y → x.label ≡ y.label → x.owner ≡ y.owner → x ≡ y
hall_once x y e l o = λ i. record {
  plan = ap (λ (m : State). m.plan) e i;
  rule = ap (λ (m : State). m.rule) e i;
  atoms = ap (λ (m : State). m.atoms) e i;
  label = l i;
  owner = o i;
}

-- what `take_record`, `take_insert`, `take_remove` and `run_stream` return and leave: the answer, the count (of bytes, of records), the hall and the lent list
pub record Returned : Type 0 where
  pub answer : Answer
  pub count : ℕ
  pub hall : Hall
  pub list : List ℕ

abbrev pub leaves : Returned → Left
leaves o = left_in o.answer o.count o.hall o.list

outcome_once : (x y : Returned) → leaves x ≡ leaves y → x ≡ y
outcome_once x y e =
    let s = left_once x.answer y.answer x.count y.count (state_of x.hall) (state_of y.hall) x.hall.label y.hall.label x.hall.owner y.hall.owner x.list y.list e in
    let h = hall_once x.hall y.hall s.state s.labels s.owners in
    λ i. record { answer = s.answer i; count = s.count i; hall = h i; list = s.lists i }

-- `hall::take_record` on the state m, the lent list and the bytes
pub take_record_once : (m : State) (list bytes : List ℕ) (x y : Returned) → leaves x ≡ left_of m list bytes → leaves y ≡ left_of m list bytes → x ≡ y
take_record_once m list bytes x y p q = outcome_once x y (p ∙ sym q)

-- `tables::take_insert` and `tables::take_remove` on the state m, the lent list and the record that was read
pub left_for_once : (m : State) (list : List ℕ) (read : Read) (x y : Returned) → leaves x ≡ left_for m list read → leaves y ≡ left_for m list read → x ≡ y
left_for_once m list read x y p q = outcome_once x y (p ∙ sym q)

-- `stream::run_stream` on the lent list and the bytes
pub run_stream_once : (list bytes : List ℕ) (x y : Returned) → leaves x ≡ ran_of list bytes → leaves y ≡ ran_of list bytes → x ≡ y
run_stream_once list bytes x y p q = outcome_once x y (p ∙ sym q)

-- what `stream::clear_box` ensures
pub record IsFresh (x : Hall) : Type 0 where
  pub state_is : state_of x ≡ fresh
  pub labels : x.label ≡ labels_of fresh
  pub owners : x.owner ≡ owners_of fresh

pub clear_box_once : (x y : Hall) → IsFresh x → IsFresh y → x ≡ y
clear_box_once x y p q = hall_once x y (p.state_is ∙ sym q.state_is) (p.labels ∙ sym q.labels) (p.owners ∙ sym q.owners)

-- `labels::lowest_on`: what was found determines the answer
found_as : Option ℕ → Found ℕ
found_as none = Nothing
found_as (some i) = At i

finds : (r : Found ℕ) → found_as (found r) ≡ r
unfolding found_as found
finds (At i) = λ j. At i
finds Nothing = λ j. Nothing

pub lowest_on_once : (label : List ℕ) (l : ℕ) (x y : Found ℕ) → found x ≡ lowest_on label l → found y ≡ lowest_on label l → x ≡ y
lowest_on_once label l x y p q = sym (finds x) ∙ ap found_as (p ∙ sym q) ∙ finds y

-- `questions::reply` on the state m: what was said determines the answer
pub reply_once : (m : State) (what : Record) (x y : Answer) → said x ≡ said (reply_to m what) → said y ≡ said (reply_to m what) → x ≡ y
reply_once m what x y p q = said_once x y (p ∙ sym q)

-- `records::read_record` on the bytes s, and `records::read_at` on those from a place on
pub read_record_once : (s : List ℕ) (x y : Read) → said_read x ≡ said_read (read_of s) → said_read y ≡ said_read (read_of s) → x ≡ y
read_record_once s x y p q = read_once x y (p ∙ sym q)

pub read_at_once : (stream : List ℕ) (at : ℕ) (x y : Read) → said_read x ≡ said_read (read_of (drop at stream)) → said_read y ≡ said_read (read_of (drop at stream)) → x ≡ y
read_at_once stream at = read_record_once (drop at stream)

-- `records::read_through`
pub read_through_once : (stream : List ℕ) (at : ℕ) (x y : Placed) → said_placed x ≡ said_placed (placed_at stream at) → said_placed y ≡ said_placed (placed_at stream at) → x ≡ y
read_through_once stream at x y p q = placed_once x y (p ∙ sym q)

-- `records::next_record` and `records::reader_over` leave a reader: theirs stand in that crate's proofs/Once

-- every other public function ensures an equation for its whole result: `atom_of`, `source_of`, `atoms_on`
pub equation_once : {A : Type 0} (specified x y : A) → x ≡ specified → y ≡ specified → x ≡ y
equation_once specified x y p q = p ∙ sym q
