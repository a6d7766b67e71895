-- The answers in the document's terms: for each case of an enum its word or number, and the values that stand with it in their order.
-- First what a record is answered with, then what is read from a stream. Assumes nothing: these are definitions.
use Rattle.std.specs.Prelude.{List, [], ◌∷◌, ℕ}
use Rattle.meaning.specs.declared.Fate.{Fate}
use Rattle.meaning.specs.declared.Fate.TheVariants.{Out, Lost, Round}
use Rattle.meaning.specs.declared.Answer.{Answer}
use Rattle.meaning.specs.declared.Answer.TheVariants.{End, Refused, Ok, Changed, Loop, NoLoop, Went, Yes, No, Tally}
use Rattle.meaning.specs.declared.Record.{Record}
use Rattle.meaning.specs.declared.Record.TheVariants.{Hall, Link, Close, Insert, Remove, Loop as AskLoop, Fate as AskFate, Reach as AskReach, Tally as AskTally}
use Rattle.std.specs.Prelude.{Ok as right, Err as wrong, Some, None}
use Rattle.meaning.specs.declared.Refusal.{Refusal}
use Rattle.meaning.specs.declared.Refusal.TheVariants.{ShortList, UnknownKind, CutOff, OutOfOrder, NoNode, NoLink, LinksFull, NoEnd, NoRule, RuleLive, RuleNotLive, NoPrefix, Tie, CutsFull}
use Rattle.meaning.specs.Records.{Read}
use Rattle.meaning.specs.declared.Placed.{Placed}

-- the words of the answers
pub data Word : Type 0 where
  end refused ok loop none out lost round yes no tally : Word

pub record Said : Type 0 where
  pub word : Word
  pub values : List ℕ

abbrev pub says : Word → List ℕ → Said
says w ns = record { word = w; values = ns }

-- a refusal's number
abbrev pub number_of : Refusal → ℕ
number_of ShortList = 0
number_of UnknownKind = 1
number_of CutOff = 2
number_of OutOfOrder = 3
number_of NoNode = 4
number_of NoLink = 5
number_of LinksFull = 6
number_of NoEnd = 7
number_of NoRule = 8
number_of RuleLive = 9
number_of RuleNotLive = 10
number_of NoPrefix = 11
number_of Tie = 12
number_of CutsFull = 13

-- out: link and hops; lost: node and hops
unfoldable pub said_fate : Fate → Said
said_fate (Out l h) = says out (l ∷ h ∷ [])
said_fate (Lost v h) = says lost (v ∷ h ∷ [])
said_fate Round = says round []

-- refused: its number; ok of an insert or a remove: the length of the change list; loop: address and node;
-- yes: address; tally: out, lost, round
unfoldable pub said : Answer → Said
said End = says end []
said (Refused k) = says refused (number_of k ∷ [])
said Ok = says ok []
said (Changed n) = says ok (n ∷ [])
said (Loop a v) = says loop (a ∷ v ∷ [])
said NoLoop = says none []
said (Went f) = said_fate f
said (Yes a) = says yes (a ∷ [])
said No = says no []
said (Tally o l r) = says tally (o ∷ l ∷ r ∷ [])

-- a record: its kind's number, and its fields in order
pub record Sent : Type 0 where
  pub kind : ℕ
  pub fields : List ℕ

abbrev pub sends : ℕ → List ℕ → Sent
sends k ns = record { kind = k; fields = ns }

unfoldable pub sent : Record → Sent
sent (Hall n) = sends 1 (n ∷ [])
sent (Link s c e) = sends 2 (s ∷ c ∷ e ∷ [])
sent Close = sends 3 []
sent (Insert r l p n t) = sends 4 (r ∷ l ∷ p ∷ n ∷ t ∷ [])
sent (Remove r) = sends 5 (r ∷ [])
sent AskLoop = sends 6 []
sent (AskFate v a) = sends 7 (v ∷ a ∷ [])
sent (AskReach v w) = sends 8 (v ∷ w ∷ [])
sent (AskTally v) = sends 9 (v ∷ [])

-- what was read: where it is no record, what is answered; else the record and how many bytes it has
pub data SaidRead : Type 0 where
  answered : Said → SaidRead
  whole : Sent → ℕ → SaidRead

unfoldable pub said_read : Read → SaidRead
said_read (right None) = answered (said End)
said_read (wrong k) = answered (said (Refused k))
said_read (right (Some (r, n))) = whole (sent r) n

-- the same, and the place after it
pub record SaidPlaced : Type 0 where
  pub read : SaidRead
  pub place : ℕ

abbrev pub said_placed : Placed → SaidPlaced
said_placed x = record { read = said_read x.read; place = x.place }
