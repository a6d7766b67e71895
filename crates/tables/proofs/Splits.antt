-- A boundary made: the two outcomes, that it was one and that it is new. Assumes nothing.
use mathlib.Core.Bool.{true, false}
use mathlib.Core.List.{List}
use mathlib.Core.Path.{◌≡◌, sym, ◌∙◌, subst⁻¹}
use Prim.Native.Nat.{ℕ, ◌+◌, ◌≤◌, ◌<◌}
use native.Mathlib.Omega.{arith}
use lib.ListN.{get_or}
use borrow.Author.Tests.{eq-eqb, ne_eqb}
use Rattle.meaning.specs.Hall.{top, State}
use Rattle.meaning.specs.Atoms.{place_of, is_cut, is_boundary, split_cut, split_number, split_count, with_cut}
use Rattle.meaning.proofs.atoms.Splits.{within, cut_old}
use Rattle.lent.specs.Owners.{Whole}
use Rattle.lent.proofs.Splitting.{split_whole}
use Rattle.std.specs.List.{insert, remove}
use Rattle.tables.proofs.Inserts.{none_lost}
use Rattle.tables.specs.Rows.{Given}

-- the place that was looked up decides
was_cut : (cut : List ℕ) (n b p : ℕ) → p ≡ place_of cut n b → get_or cut p 0 ≡ b → is_cut cut n b ≡ true
unfolding is_cut
was_cut cut n b p at e = rw at at (eq-eqb (get_or cut p 0) b e)

no_cut : (cut : List ℕ) (n b p : ℕ) → p ≡ place_of cut n b → (get_or cut p 0 ≡ b → ⊥) → is_cut cut n b ≡ false
unfolding is_cut
no_cut cut n b p at d = rw at at (ne_eqb (get_or cut p 0) b d)

-- b was a boundary
pub was_one : (m : State) (b p : ℕ) → p ≡ place_of m.atoms.cut m.atoms.count b → get_or m.atoms.cut p 0 ≡ b → m ≡ with_cut m b
was_one m b p at e = sym (cut_old m b (was_cut m.atoms.cut m.atoms.count b p at e))

-- b lies within place p, and there is room for an atom
pub record Inner (m : State) (b p : ℕ) : Type 0 where
  pub at : p ≡ place_of m.atoms.cut m.atoms.count b
  pub missing : is_boundary m b ≡ false
  pub place : p < m.atoms.count
  pub room : m.atoms.count < 512

module _ {m : State} {label owner : List ℕ} (W : Whole m label owner) {b p : ℕ} (bt : b ≤ top m) where
  pub inner : (is_boundary m b ≡ false → m.atoms.count < 512) → p ≡ place_of m.atoms.cut m.atoms.count b → (get_or m.atoms.cut p 0 ≡ b → ⊥) → Inner m b p
  inner room at d =
      let e = no_cut m.atoms.cut m.atoms.count b p at d in
      record { at = at; missing = e; place = omega (arith, within W.sound.cuts bt e); room = room e }

  module _ (I : Inner m b p) where
    pub made_is : {cut number : List ℕ} → cut ≡ insert (remove m.atoms.cut (m.atoms.count + 1)) (p + 1) b → number ≡ insert (remove m.atoms.number m.atoms.count) (p + 1) m.atoms.count
        → record { width = m.width; plan = m.plan; rule = m.rule; atoms = record { count = m.atoms.count + 1; cut = cut; number = number } } ≡ with_cut m b
    unfolding with_cut split_cut split_number split_count
    made_is e d =
        let C = W.sound.cuts in
        let N = W.sound.numbers in
        let n = m.atoms.count in
        rw (
          I.missing,
          ← I.at,
          e ∙ sym (none_lost m.atoms.cut (n + 1) (p + 1) b (omega (arith, I.place)) (omega (arith, I.room, C.long)) (λ q h. C.rest q (omega arith))),
          d ∙ sym (none_lost m.atoms.number n (p + 1) n (omega (arith, I.place)) (omega (arith, I.room, N.long)) N.rest),
        )

    pub made_whole : {o : State} {label' owner' : List ℕ} → o ≡ with_cut m b → Given label label' owner owner' (get_or m.atoms.number p 0) m.atoms.count → Whole o label' owner'
    made_whole {label' = label'} {owner' = owner'} e G =
        subst⁻¹ (λ (o : State). Whole o label' owner') e
        (split_whole m b label label' owner owner' W bt I.missing I.room H.long H.row H.else H.bits)
      where
        H : Given label label' owner owner' (get_or m.atoms.number (place_of m.atoms.cut m.atoms.count b) 0) m.atoms.count
        H = rw (← I.at) G
