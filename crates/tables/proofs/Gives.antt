-- An atom's owners given to another, node by node, and the links that they name. Assumes nothing.
use mathlib.Core.Bool.{Bool, true, false, ◌||◌, ◌&&◌, and-false, or-false}
use mathlib.Core.List.{List}
use mathlib.Core.Path.{◌≡◌, refl, sym, ap, ap₂, ◌∙◌}
use Prim.Native.Nat.{ℕ, ◌+◌, ◌*◌, ◌/◌, ◌%◌, ◌<◌}
use native.Mathlib.Decide.{ℕ_discrete}
use native.Mathlib.Numerals.{add-one}
use native.Mathlib.Omega.{arith}
use lib.Dec.{eqb}
use lib.ListN.{length, set, length-set}
use lib.Seq.{get_or-set_same, get_or-set_other}
use Rattle.meaning.specs.Search.{any_below}
use Rattle.meaning.specs.Labels.{on}
use Rattle.meaning.proofs.base.Order.{eqb_comm}
use Rattle.lent.specs.Owners.{owner_in, via}
use Rattle.lent.proofs.Labelled.{via_named, unnamed}
use Rattle.tables.specs.Bits.{Put}
use Rattle.tables.specs.Rows.{Given}

-- the owners at the nodes below n are given
pub record Giving (label label' owner owner' : List ℕ) (old new n : ℕ) : Type 0 where
  pub long : length owner' ≡ length owner
  pub row : (v : ℕ) → v < n → owner_in owner' new v ≡ owner_in owner old v
  pub else : (k v : ℕ) → v < 16 → (k ≡ new → ⊥) → owner_in owner' k v ≡ owner_in owner k v
  pub bits : (l k : ℕ) → l < 64 → k < 512 → on label' l k ≡ on label l k || (eqb k new && any_below n (λ v. eqb (via (owner_in owner old v)) l))

pub give_start : (label owner : List ℕ) (old new : ℕ) → Giving label label owner owner old new 0
unfolding any_below
give_start label owner old new = record {
  long = refl;
  row = λ v h. absurd (omega arith);
  else = λ k v h n. refl;
  bits = λ l k hl hk. sym (ap (λ (t : Bool). on label l k || t) (and-false (eqb k new)) ∙ or-false (on label l k));
}

-- (b || (t && x)) || (y && t), where y names the link too, is b || (t && (x || y))
joined : (b t x y : Bool) → ((b || (t && x)) || (y && t)) ≡ b || (t && (x || y))
joined true t x y = refl
joined false true true y = refl
joined false true false true = refl
joined false true false false = refl
joined false false x true = refl
joined false false x false = refl

module _ {label label' owner owner' : List ℕ} {old new v : ℕ} (G : Giving label label' owner owner' old new v) (hv : v < 16) (ne : old ≡ new → ⊥) (hn : new < 512) (size : length owner ≡ 8192) where
  abbrev e : ℕ
  e = owner_in owner' old v

  there : e ≡ owner_in owner old v
  there = G.else old v hv ne

  -- with the labels as they are to be
  step : (label'' : List ℕ) → ((l k : ℕ) → l < 64 → k < 512 → on label'' l k ≡ on label' l k || (eqb (via e) l && eqb k new))
      → Giving label label'' owner (set owner' (16 * new + v) e) old new (v + 1)
  unfolding any_below
  step label'' f = record {
    long = length-set owner' (16 * new + v) e ∙ G.long;
    row = λ u h. row u h (ℕ_discrete u v);
    else = λ k u h n. get_or-set_other owner' (16 * new + v) (16 * k + u) e 0 (λ q. n (omega arith)) ∙ G.else k u h n;
    bits = λ l k hl hk.
        f l k hl hk ∙ ap₂ (λ (a x : Bool). a || (x && eqb k new)) (G.bits l k hl hk) (ap (λ (x : ℕ). eqb (via x) l) there)
        ∙ joined (on label l k) (eqb k new) _ _
        ∙ ap (λ (x : ℕ). on label l k || (eqb k new && any_below x (λ u. eqb (via (owner_in owner old u)) l))) (sym (add-one v));
  }
    where
      row : (u : ℕ) → u < v + 1 → Dec (u ≡ v) → owner_in (set owner' (16 * new + v) e) new u ≡ owner_in owner old u
      row u h (yes q) = rw q (get_or-set_same owner' (16 * new + v) e 0 (omega (arith, G.long)) ∙ there)
      row u h (no q) = get_or-set_other owner' (16 * new + v) (16 * new + u) e 0 (λ d. q (omega arith)) ∙ G.row u (omega arith)

  -- no owner, no link
  pub give_none : e ≡ 0 → Giving label label' owner (set owner' (16 * new + v) e) old new (v + 1)
  give_none z =
      step label' (λ l k hl hk. sym (ap (λ (t : Bool). on label' l k || (t && eqb k new)) (ap (λ (x : ℕ). eqb (via x) l) z ∙ unnamed l hl) ∙ or-false (on label' l k)))

  pub give_put : {label'' : List ℕ} → (e ≡ 0 → ⊥) → Put label' label'' (e / 512 % 64) new → Giving label label'' owner (set owner' (16 * new + v) e) old new (v + 1)
  give_put {label''} n P = step label'' (λ l k hl hk.
      P.member l k hl hk ∙ ap (λ (t : Bool). on label' l k || (t && eqb k new)) (eqb_comm l (e / 512 % 64) ∙ ap (λ (x : ℕ). eqb x l) (sym (via_named e n))))

pub give_end : {label label' owner owner' : List ℕ} {old new n : ℕ} → Giving label label' owner owner' old new n → n ≡ 16 → Given label label' owner owner' old new
give_end {label} {label'} {owner} {owner'} {old} {new} {n} G e = record {
  long = G.long;
  row = λ v h. G.row v (omega arith);
  else = λ k v hk hv d. G.else k v hv d;
  bits = λ l k hl hk. G.bits l k hl hk ∙ ap (λ (x : ℕ). on label l k || (eqb k new && any_below x (λ v. eqb (via (owner_in owner old v)) l))) e;
}
