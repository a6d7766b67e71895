-- Two answers that say the same are the same, and so two outcomes of a step or a run that leave the same are the same.
-- Of what is read: what it says by the bytes, and that two reads that say the same are the same. Assumes nothing.
use mathlib.Core.Path.{◌≡◌, refl, sym, ap, ◌∙◌}
use mathlib.Core.Bool.{true, false}
use mathlib.Core.List.{List, [], ◌∷◌}
use Prim.Native.Nat.{ℕ, zero, suc, ◌+◌, ◌<◌, ◌≤◌}
use native.Mathlib.Omega.{arith}
use lib.Dec.{ltb, leb}
use lib.ListN.{length, get_or}
use borrow.Author.Tests.{ltb-true, leb-true}
use Rattle.meaning.specs.declared.Fate.TheVariants.{Out, Lost, Round}
use Rattle.meaning.specs.declared.Answer.{Answer}
use Rattle.meaning.specs.declared.Answer.TheVariants.{End, Refused, Ok, Changed, Loop, NoLoop, Went, Yes, No, Tally}
use Rattle.meaning.specs.declared.Record.{Record}
use Rattle.meaning.specs.declared.Record.TheVariants.{Hall, Link, Close, Insert, Remove, Loop as AskLoop, Fate as AskFate, Reach as AskReach, Tally as AskTally}
use Rattle.std.specs.Prelude.{Ok as right, Err as wrong, Some, None}
use Rattle.meaning.specs.declared.Refusal.{Refusal}
use Rattle.meaning.specs.declared.Refusal.TheVariants.{ShortList, UnknownKind, CutOff, OutOfOrder, NoNode, NoLink, LinksFull, NoEnd, NoRule, RuleLive, RuleNotLive, NoPrefix, Tie, CutsFull}
use Rattle.meaning.specs.declared.Placed.{Placed}
use Rattle.meaning.specs.Answers.{number_of, Word, end, refused, ok, loop, none, out, lost, round, yes, no, tally, Said, says, said_fate, said, Sent, sends, sent, SaidRead, answered, whole, said_read, SaidPlaced, said_placed}
use Rattle.meaning.specs.Records.{number, is_kind, body_of, record_of, Read, no_more, got, read_of}
use Rattle.meaning.specs.Hall.{State}
use Rattle.meaning.specs.Box.{Left, left}
use Rattle.meaning.proofs.base.Search.{and_both}
use Rattle.meaning.proofs.records.Reading.{is_hall, is_link, is_close, is_insert, is_remove, is_loop, is_fate, is_reach, is_tally, read_end, read_unknown, read_short, read_got}

-- the refusal by its number
unfoldable refusal_of : ℕ → Refusal
refusal_of n =
    get_or
    (ShortList
    ∷ UnknownKind
    ∷ CutOff
    ∷ OutOfOrder
    ∷ NoNode
    ∷ NoLink
    ∷ LinksFull
    ∷ NoEnd
    ∷ NoRule
    ∷ RuleLive
    ∷ RuleNotLive
    ∷ NoPrefix
    ∷ Tie
    ∷ CutsFull
    ∷ [])
    n
    ShortList

refusal_again : (k : Refusal) → refusal_of (number_of k) ≡ k
unfolding refusal_of
refusal_again ShortList = refl
refusal_again UnknownKind = refl
refusal_again CutOff = refl
refusal_again OutOfOrder = refl
refusal_again NoNode = refl
refusal_again NoLink = refl
refusal_again LinksFull = refl
refusal_again NoEnd = refl
refusal_again NoRule = refl
refusal_again RuleLive = refl
refusal_again RuleNotLive = refl
refusal_again NoPrefix = refl
refusal_again Tie = refl
refusal_again CutsFull = refl

-- THE LAW: two refusals of one number are the same
pub refusal_once : (j k : Refusal) → number_of j ≡ number_of k → j ≡ k
refusal_once j k e = sym (refusal_again j) ∙ ap refusal_of e ∙ refusal_again k

-- an `ok` with no number is that of a hall, a link or a close
oks : List ℕ → Answer
oks [] = Ok
oks (n ∷ ns) = Changed n

-- the answer that was said
heard : Word → List ℕ → Answer
heard end ns = End
heard refused ns = Refused (refusal_of (get_or ns 0 0))
heard ok ns = oks ns
heard loop ns = Loop (get_or ns 0 0) (get_or ns 1 0)
heard none ns = NoLoop
heard out ns = Went (Out (get_or ns 0 0) (get_or ns 1 0))
heard lost ns = Went (Lost (get_or ns 0 0) (get_or ns 1 0))
heard round ns = Went Round
heard yes ns = Yes (get_or ns 0 0)
heard no ns = No
heard tally ns = Tally (get_or ns 0 0) (get_or ns 1 0) (get_or ns 2 0)

hears : (a : Answer) → heard (said a).word (said a).values ≡ a
unfolding heard oks said said_fate
hears End = refl
hears (Refused k) = ap Refused (refusal_again k)
hears Ok = refl
hears (Changed n) = refl
hears (Loop a v) = refl
hears NoLoop = refl
hears (Went (Out l h)) = refl
hears (Went (Lost v h)) = refl
hears (Went Round) = refl
hears (Yes a) = refl
hears No = refl
hears (Tally o l r) = refl

-- THE LAW: two answers that say the same are the same
pub said_once : (a b : Answer) → said a ≡ said b → a ≡ b
said_once a b e = sym (hears a) ∙ ap (λ (s : Said). heard s.word s.values) e ∙ hears b

-- ---- what is read

-- how many bytes each field of a record of kind k has
unfoldable pub widths : ℕ → List ℕ
widths k =
    get_or ([] ∷ (1 ∷ []) ∷ (1 ∷ 1 ∷ 1 ∷ []) ∷ [] ∷ (2 ∷ 1 ∷ 4 ∷ 1 ∷ 2 ∷ []) ∷ (2 ∷ []) ∷ [] ∷ (1 ∷ 4 ∷ []) ∷ (1 ∷ 1 ∷ []) ∷ (1 ∷ []) ∷ []) k []

-- their sum
unfoldable pub total : List ℕ → ℕ
total [] = 0
total (w ∷ ws) = w + total ws

-- THE LAW: a kind's body has as many bytes as its fields
pub body_is : (k : ℕ) → body_of k ≡ total (widths k)
unfolding body_of widths total
body_is zero = refl
body_is (suc zero) = refl
body_is (suc (suc zero)) = refl
body_is (suc (suc (suc zero))) = refl
body_is (suc (suc (suc (suc zero)))) = refl
body_is (suc (suc (suc (suc (suc zero))))) = refl
body_is (suc (suc (suc (suc (suc (suc zero)))))) = refl
body_is (suc (suc (suc (suc (suc (suc (suc zero))))))) = refl
body_is (suc (suc (suc (suc (suc (suc (suc (suc zero)))))))) = refl
body_is (suc (suc (suc (suc (suc (suc (suc (suc (suc zero))))))))) = refl
body_is (suc (suc (suc (suc (suc (suc (suc (suc (suc (suc k)))))))))) = refl

-- the numbers in the bytes of s from byte i on, each with its width
unfoldable pub numbers : List ℕ → ℕ → List ℕ → List ℕ
numbers s i [] = []
numbers s i (w ∷ ws) = number s i w ∷ numbers s (i + w) ws

module _ (s : List ℕ) where
  -- THE LAW: a record's kind is its first byte, and its fields are the numbers in the bytes after it
  pub sent_is : is_kind (get_or s 0 0) ≡ true → sent (record_of s) ≡ sends (get_or s 0 0) (numbers s 1 (widths (get_or s 0 0)))
  unfolding is_kind sent numbers widths
  sent_is h =
      let p = and_both (ltb 0 (get_or s 0 0)) (leb (get_or s 0 0) 9) h in
      go (get_or s 0 0) refl (ltb-true 0 (get_or s 0 0) p.0) (leb-true (get_or s 0 0) 9 p.1)
    where
      go : (k : ℕ) → get_or s 0 0 ≡ k → 0 < k → k ≤ 9 → sent (record_of s) ≡ sends k (numbers s 1 (widths k))
      go zero e h l = absurd (omega arith)
      go (suc zero) e h l = sym (ap sent (is_hall s e))
      go (suc (suc zero)) e h l = sym (ap sent (is_link s e))
      go (suc (suc (suc zero))) e h l = sym (ap sent (is_close s e))
      go (suc (suc (suc (suc zero)))) e h l = sym (ap sent (is_insert s e))
      go (suc (suc (suc (suc (suc zero))))) e h l = sym (ap sent (is_remove s e))
      go (suc (suc (suc (suc (suc (suc zero)))))) e h l = sym (ap sent (is_loop s e))
      go (suc (suc (suc (suc (suc (suc (suc zero))))))) e h l = sym (ap sent (is_fate s e))
      go (suc (suc (suc (suc (suc (suc (suc (suc zero)))))))) e h l = sym (ap sent (is_reach s e))
      go (suc (suc (suc (suc (suc (suc (suc (suc (suc zero))))))))) e h l = sym (ap sent (is_tally s e))
      go (suc (suc (suc (suc (suc (suc (suc (suc (suc (suc n)))))))))) e h l = absurd (omega arith)

  -- so what is read says "end", is refused by 1 or by 2, or says the kind, the fields and the length
  pub end_said : length s ≡ 0 → said_read (read_of s) ≡ answered (says end [])
  unfolding said_read said
  end_said e = sym (ap said_read (read_end s e))

  module _ (some : length s ≡ 0 → ⊥) where
    pub unknown_said : is_kind (get_or s 0 0) ≡ false → said_read (read_of s) ≡ answered (says refused (1 ∷ []))
    unfolding said_read said
    unknown_said e = sym (ap said_read (read_unknown s some e))

    module _ (known : is_kind (get_or s 0 0) ≡ true) where
      pub short_said : length s < 1 + body_of (get_or s 0 0) → said_read (read_of s) ≡ answered (says refused (2 ∷ []))
      unfolding said_read said
      short_said h = sym (ap said_read (read_short s some known h))

      pub whole_said : 1 + body_of (get_or s 0 0) ≤ length s
          → said_read (read_of s) ≡ whole (sends (get_or s 0 0) (numbers s 1 (widths (get_or s 0 0)))) (1 + body_of (get_or s 0 0))
      unfolding said_read
      whole_said h = sym (ap said_read (read_got s some known h)) ∙ ap (λ (x : Sent). whole x (1 + body_of (get_or s 0 0))) (sent_is known)

-- the record that was sent, and what was read
record_from : Sent → Record
record_from x =
    let at : ℕ → ℕ = λ i. get_or x.fields i 0 in
    get_or
    (Close
    ∷ Hall (at 0)
    ∷ Link (at 0) (at 1) (at 2)
    ∷ Close
    ∷ Insert (at 0) (at 1) (at 2) (at 3) (at 4)
    ∷ Remove (at 0)
    ∷ AskLoop
    ∷ AskFate (at 0) (at 1)
    ∷ AskReach (at 0) (at 1)
    ∷ AskTally (at 0)
    ∷ [])
    x.kind
    Close

from_sent : (r : Record) → record_from (sent r) ≡ r
unfolding record_from sent
from_sent (Hall n) = refl
from_sent (Link s c e) = refl
from_sent Close = refl
from_sent (Insert r l p n t) = refl
from_sent (Remove r) = refl
from_sent AskLoop = refl
from_sent (AskFate v a) = refl
from_sent (AskReach v w) = refl
from_sent (AskTally v) = refl

unread_from : List ℕ → Read
unread_from [] = no_more
unread_from (k ∷ ks) = wrong (refusal_of k)

read_from : SaidRead → Read
read_from (answered x) = unread_from x.values
read_from (whole x n) = got (record_from x) n

from_said : (x : Read) → read_from (said_read x) ≡ x
unfolding read_from unread_from said_read said
from_said (right None) = refl
from_said (wrong k) = ap (λ (j : Refusal). wrong j) (refusal_again k)
from_said (right (Some (r, n))) = ap (λ (x : Record). got x n) (from_sent r)

-- THE LAW: two reads that say the same are the same
pub read_once : (x y : Read) → said_read x ≡ said_read y → x ≡ y
read_once x y e = sym (from_said x) ∙ ap read_from e ∙ from_said y

pub placed_once : (x y : Placed) → said_placed x ≡ said_placed y → x ≡ y
placed_once x y e =
    let r = read_once x.read y.read (ap (λ (z : SaidPlaced). z.read) e) in
    λ i. record { read = r i; place = ap (λ (z : SaidPlaced). z.place) e i }

-- ---- what is left

-- a contract that gives what is left admits one outcome: the answer, the count and every table
pub record Same (a b : Answer) (i j : ℕ) (m n : State) (label label' owner owner' list list' : List ℕ) : Type 0 where
  pub answer : a ≡ b
  pub count : i ≡ j
  pub state : m ≡ n
  pub labels : label ≡ label'
  pub owners : owner ≡ owner'
  pub lists : list ≡ list'

pub left_once : (a b : Answer) (i j : ℕ) (m n : State) (label label' owner owner' list list' : List ℕ)
    → left a i m label owner list ≡ left b j n label' owner' list' → Same a b i j m n label label' owner owner' list list'
left_once a b i j m n label label' owner owner' list list' e = record {
  answer = said_once a b (ap (λ (l : Left). l.answer) e);
  count = ap (λ (l : Left). l.passed) e;
  state = ap (λ (l : Left). l.state) e;
  labels = ap (λ (l : Left). l.label) e;
  owners = ap (λ (l : Left). l.owner) e;
  lists = ap (λ (l : Left). l.list) e;
}
