-- A record whose body is cut off, by its kind: what its bytes begin with is refused by 2. Assumes nothing.
use Prim.Native.Nat.{ℕ, ◌+◌, ◌<◌}
use Rattle.meaning.proofs.records.Reading.{read_short}
use Rattle.meaning.specs.Answers.{said_read}
use Rattle.meaning.specs.Records.{is_kind, body_of, read_of}
use Rattle.meaning.specs.declared.Refusal.TheVariants.{CutOff}
use Rattle.std.specs.Prelude.{Err}
use lib.ListN.{length, get_or}
use mathlib.Core.Bool.{true}
use mathlib.Core.List.{List, ◌∷◌}
use mathlib.Core.Logic.{◌⊎◌, inl, inr}
use mathlib.Core.Path.{◌≡◌, refl, ap, ◌∙◌}
use native.Mathlib.Omega.{arith}

-- the bytes are a kind k and a body
module _ (s body : List ℕ) (k : ℕ) (e : (s ≡ k ∷ body) × (length body + 1 ≡ length s)) where
  -- of a kind j, whose body has more bytes
  short : (j : ℕ) → k ≡ j → is_kind j ≡ true → length body < body_of j → said_read (Err CutOff) ≡ said_read (read_of s)
  short j f is h =
      let here : get_or s 0 0 ≡ j = ap (λ (x : List ℕ). get_or x 0 0) e.0 ∙ f in
      ap said_read (read_short s (λ z. omega (arith, e.1)) (ap is_kind here ∙ is) (omega (arith, e.1, ap body_of here)))

  -- of a kind, and fewer bytes than its body has
  pub cut_off : (k ≡ 1) × (length body < 1) ⊎ (k ≡ 2) × (length body < 3) ⊎ (k ≡ 4) × (length body < 10) ⊎ (k ≡ 5) × (length body < 2)
      ⊎ (k ≡ 7) × (length body < 5) ⊎ (k ≡ 8) × (length body < 2) ⊎ (k ≡ 9) × (length body < 1) → said_read (Err CutOff) ≡ said_read (read_of s)
  unfolding is_kind body_of
  cut_off (inl h) = short 1 h.0 refl h.1
  cut_off (inr (inl h)) = short 2 h.0 refl h.1
  cut_off (inr (inr (inl h))) = short 4 h.0 refl h.1
  cut_off (inr (inr (inr (inl h)))) = short 5 h.0 refl h.1
  cut_off (inr (inr (inr (inr (inl h))))) = short 7 h.0 refl h.1
  cut_off (inr (inr (inr (inr (inr (inl h)))))) = short 8 h.0 refl h.1
  cut_off (inr (inr (inr (inr (inr (inr h)))))) = short 9 h.0 refl h.1
