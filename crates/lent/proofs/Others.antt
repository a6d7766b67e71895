-- What a record may be that is none of those which a `match` names before its last arm. Assumes nothing.
use mathlib.Core.Path.{◌≡◌, refl, ap}
use mathlib.Core.Bool.{true, false}
use Prim.Native.Nat.{ℕ}
use native.Mathlib.Omega.{arith}
use Rattle.meaning.specs.declared.Record.{Record}
use Rattle.meaning.specs.declared.Record.TheVariants.{Hall, Link, Close, Insert, Remove, Loop, Fate, Reach, Tally}
use Rattle.meaning.specs.declared.hall.Phase.TheVariants.{Closed}
use Rattle.meaning.specs.Hall.{stage}
use Rattle.meaning.specs.Records.{sort_of, set_up_phase, phase_of, is_question}

-- no hall, link or close: it comes after the close
pub comes_after : (r : Record) → ((n : ℕ) → r ≡ Hall n → ⊥) → ((s c e : ℕ) → r ≡ Link s c e → ⊥) → (r ≡ Close → ⊥) → phase_of (sort_of r) ≡ Closed
unfolding sort_of phase_of
comes_after (Hall n) h l c = absurd (h n refl)
comes_after (Link s k e) h l c = absurd (l s k e refl)
comes_after Close h l c = absurd (c refl)
comes_after (Insert r l p n t) h l' c = refl
comes_after (Remove r) h l c = refl
comes_after Loop h l c = refl
comes_after (Fate v a) h l c = refl
comes_after (Reach v w) h l c = refl
comes_after (Tally v) h l c = refl

-- no insert or remove, and after the close: it is a question
pub is_asked : (r : Record) → ((i l p n t : ℕ) → r ≡ Insert i l p n t → ⊥) → ((i : ℕ) → r ≡ Remove i → ⊥) → phase_of (sort_of r) ≡ Closed → is_question (sort_of r) ≡ true
unfolding sort_of set_up_phase phase_of is_question
is_asked (Hall n) i m p = absurd (omega (arith, ap stage p))
is_asked (Link s k e) i m p = absurd (omega (arith, ap stage p))
is_asked Close i m p = absurd (omega (arith, ap stage p))
is_asked (Insert r l q n t) i m p = absurd (i r l q n t refl)
is_asked (Remove r) i m p = absurd (m r refl)
is_asked Loop i m p = refl
is_asked (Fate v a) i m p = refl
is_asked (Reach v w) i m p = refl
is_asked (Tally v) i m p = refl

-- no loop, fate, reach or tally: it asks nothing
pub asks_nothing : (r : Record) → (r ≡ Loop → ⊥) → ((v a : ℕ) → r ≡ Fate v a → ⊥) → ((v w : ℕ) → r ≡ Reach v w → ⊥) → ((v : ℕ) → r ≡ Tally v → ⊥) → is_question (sort_of r) ≡ false
unfolding is_question sort_of
asks_nothing (Hall n) l f w t = refl
asks_nothing (Link s k e) l f w t = refl
asks_nothing Close l f w t = refl
asks_nothing (Insert r k p n x) l f w t = refl
asks_nothing (Remove r) l f w t = refl
asks_nothing Loop l f w t = absurd (l refl)
asks_nothing (Fate v a) l f w t = absurd (f v a refl)
asks_nothing (Reach v u) l f w t = absurd (w v u refl)
asks_nothing (Tally v) l f w t = absurd (t v refl)
