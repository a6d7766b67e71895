-- A link's text, and numbers that are each behind a space. Assumes nothing.
use Rattle.std.proofs.Common.{◌≡◌, ℕ, ◌+◌, ◌<◌, ◌≤◌, List, [], ◌∷◌, ◌++◌, length, take, get_or, refl, sym, ap, append_assoc}
use Rattle.std.proofs.lemmas.List.{append-nil, take_all, take_more}
use borrow.Author.Tests.{eq-eqb, ne_eqb}
use Rattle.print.specs.Text.{decimal}
use Rattle.print.specs.Lines.{bytes, link_text, values}

pub no_link_lem : (l : ℕ) → l ≡ 64 → link_text l ≡ bytes "-"
unfolding link_text
no_link_lem l e = rw (eq-eqb l 64 e)

pub some_link : (l : ℕ) → (l ≡ 64 → ⊥) → link_text l ≡ decimal l
unfolding link_text
some_link l ne = rw (ne_eqb l 64 ne)

-- numbers, each behind a space
unfoldable pub spaced : List ℕ → List ℕ
spaced [] = []
spaced (n ∷ ns) = 32 ∷ (decimal n ++ spaced ns)

-- one more of them
one_more : (ns : List ℕ) (n : ℕ) → spaced (ns ++ (n ∷ [])) ≡ spaced ns ++ (32 ∷ decimal n)
unfolding spaced
one_more [] n = ap (λ (s : List ℕ). 32 ∷ s) (append-nil (decimal n))
one_more (m ∷ ms) n = rw (one_more ms n, append_assoc)

-- and the line's end
ended : (ns : List ℕ) → spaced ns ++ (10 ∷ []) ≡ values ns
unfolding spaced values
ended [] = refl
ended (n ∷ ns) = rw (append_assoc, ended ns)

-- THE LOOP of `put_words`, behind what stands in front: before the first number, one more, and the line's end
module _ (front ns : List ℕ) where
  pub none_yet : front ≡ front ++ spaced (take 0 ns)
  unfolding spaced
  none_yet = sym (append-nil front)

  pub passed : (i n : ℕ) → i < length ns → get_or ns i 0 ≡ n → (front ++ spaced (take i ns)) ++ (32 ∷ decimal n) ≡ front ++ spaced (take (i + 1) ns)
  passed i n h e = rw (take_more ns i 0 h, e, one_more (take i ns) n) (simp append_assoc)

pub all : (place text ns : List ℕ) (i : ℕ) → length ns ≤ i → ((place ++ text) ++ spaced (take i ns)) ++ (10 ∷ []) ≡ place ++ (text ++ values ns)
all place text ns i h = rw (take_all i ns h, append_assoc (place ++ text) (spaced ns) (10 ∷ []), ended ns, append_assoc)
