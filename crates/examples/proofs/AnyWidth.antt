-- The laws are of any width: what the box's IPv4 addresses are held to, cited for addresses of 128 bits. Assumes nothing.
use mathlib.Core.Path.{◌≡◌, refl}
use mathlib.Core.Option.{none}
use mathlib.Core.List.{[], ◌∷◌}
use Prim.Native.Nat.{ℕ, ◌+◌, ◌*◌, ◌^◌, ◌<◌}
use native.Mathlib.Omega.{arith}
use lib.ListN.{take}
use Rattle.meaning.specs.declared.hall.Phase.TheVariants.{Closed}
use Rattle.meaning.specs.Hall.{top, State, empty}
use Rattle.meaning.specs.Rule.{span, rule_word, lower, upper, rank, length_of, link_of}
use Rattle.meaning.specs.Records.{hall, link, close, insert}
use Rattle.meaning.specs.Step.{update_refusal, planned, with_plan, updated, changes}
use Rattle.meaning.specs.Tables.{Sound}
use Rattle.meaning.proofs.rules.Words.{RuleFits, link_of_lem, lower_of, upper_of, length_of_lem, rank_of}
use Rattle.meaning.proofs.records.Fields.{Sized, FitsUpdate}
use Rattle.meaning.proofs.sound.Sound.{empty_sound}
use Rattle.meaning.proofs.sound.Kept.{keeps_update}
use Rattle.meaning.proofs.document.Atoms.{InAtom, covered, covered_once}
use Rattle.examples.proofs.Listing.{opened}

abbrev wide : ℕ
wide = 128

-- an empty state is in order
pub empty_wide : Sound (empty wide)
empty_wide = empty_sound wide (omega arith)

-- the parts of a rule come back from its word
pub record Parts (l p n t : ℕ) : Type 0 where
  pub link : link_of wide (rule_word wide l p n t) ≡ l
  pub from : lower wide (rule_word wide l p n t) ≡ p
  pub below : upper wide (rule_word wide l p n t) ≡ p + span wide n
  pub long : length_of wide (rule_word wide l p n t) ≡ n
  pub priority : rank wide (rule_word wide l p n t) ≡ t

pub parts_wide : (l p n t : ℕ) → RuleFits wide l p n t → Parts l p n t
parts_wide l p n t R = record { link = link_of_lem R; from = lower_of R; below = upper_of R; long = length_of_lem R; priority = rank_of R }

-- a state of these addresses stays in order over an insert, and its atoms cover each address once
module _ (m : State) (S : Sound m) (is : m.width ≡ wide) (closed : m.plan.phase ≡ Closed) (r l p n t : ℕ) (F : Sized wide l p t) (ok : update_refusal m (insert r l p n t) ≡ none) where
  abbrev after : State
  after = updated m (insert r l p n t)

  pub insert_wide : Sound after
  insert_wide = keeps_update m (insert r l p n t) S (unfold FitsUpdate in rw is F) closed ok

  pub covered_wide : (a : ℕ) → a < top after → (k : ℕ) × InAtom after k a
  covered_wide = covered after insert_wide

  pub once_wide : (a j k : ℕ) → InAtom after j a → InAtom after k a → j ≡ k
  once_wide = covered_once after insert_wide

-- a hall of one node and one link to port 7, closed, with the rule 2001:db8::/32
abbrev laid : State
laid = let o = empty wide in with_plan o (planned (planned (planned o.plan (hall 1)) (link 0 1 7)) close)

abbrev prefix : ℕ
prefix = 0x20010DB8 * 2 ^ 96

abbrev ruled : State
ruled = updated laid (insert 0 0 prefix 32 5)

-- it is taken, makes two boundaries, and is listed where it wins
pub record Ruled : Type 0 where
  pub passes : update_refusal laid (insert 0 0 prefix 32 5) ≡ none
  pub cuts : take 4 ruled.atoms.cut ≡ 0 ∷ prefix ∷ (prefix + 2 ^ 96) ∷ 2 ^ 128 ∷ []
  pub listed : changes laid (insert 0 0 prefix 32 5) ≡ 1 ∷ []

pub ruled_wide : Ruled
unfolding opened
ruled_wide = record { passes = refl; cuts = refl; listed = refl }
