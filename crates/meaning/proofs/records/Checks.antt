-- The checks of a link, an insert and a remove: what each refusal asks in its order, and what an accepted one has passed. Assumes nothing.
use mathlib.Core.Path.{◌≡◌, refl}
use mathlib.Core.Bool.{Bool, true, false, not, ◌&&◌}
use mathlib.Core.Option.{Option, none, some}
use Prim.Native.Nat.{ℕ, ◌+◌, ◌≤◌, ◌<◌, ◌%◌}
use native.Mathlib.Omega.{arith}
use lib.Dec.{ltb, eqb}
use borrow.Author.Tests.{ne_eqb, lt-ltb, le-ltb, le-leb, lt-leb, ltb-false, leb-false, eqb-true, not-false, eq-eqb}
use Rattle.meaning.specs.declared.Refusal.{Refusal}
use Rattle.meaning.specs.declared.Refusal.TheVariants.{NoLink, NoRule, RuleLive, RuleNotLive, NoPrefix, Tie, CutsFull}
use Rattle.meaning.specs.Step.{when, set_up_refusal, ragged, clashes, added, update_refusal}
use Rattle.meaning.specs.Hall.{Plan, State}
use Rattle.meaning.specs.Rule.{span, rule_word, live}
use Rattle.meaning.specs.Winner.{rule_at}
use Rattle.meaning.proofs.base.Search.{or_neither}
use Rattle.meaning.proofs.base.Order.{clash}
use Rattle.meaning.specs.Records.{insert, remove, link}

pub when_none : (t : Bool) (k : Refusal) (o : Option Refusal) → when t k o ≡ none → (t ≡ false) × (o ≡ none)
unfolding when
when_none true k o e = clash cc
when_none false k o e = (refl, e)

pub live_not : (w : ℕ) → w ≡ 0 → live w ≡ false
unfolding live
live_not w e = rw e

pub live_is : (w : ℕ) → (w ≡ 0 → ⊥) → live w ≡ true
unfolding live
live_is w n = rw (ne_eqb w 0 n)

-- ---- an insert

module _ (m : State) (r l p n t : ℕ) where
  abbrev Says : Option Refusal → Type 0
  Says o = update_refusal m (insert r l p n t) ≡ o

  pub number_high : 255 < r → Says (some NoRule)
  unfolding update_refusal when
  number_high h = rw (lt-ltb 255 r h)

  module _ (low : r ≤ 255) where
    pub number_live : (rule_at m r ≡ 0 → ⊥) → Says (some RuleLive)
    unfolding update_refusal when
    number_live h = rw (le-ltb 255 r low, live_is (rule_at m r) h)

    module _ (free : rule_at m r ≡ 0) where
      pub link_unknown : m.plan.links ≤ l → Says (some NoLink)
      unfolding update_refusal when
      link_unknown h = rw (le-ltb 255 r low, live_not (rule_at m r) free, le-leb m.plan.links l h)

      module _ (known : l < m.plan.links) where
        pub length_high : m.width < n → Says (some NoPrefix)
        unfolding update_refusal when
        length_high h = rw (le-ltb 255 r low, live_not (rule_at m r) free, lt-leb m.plan.links l known, lt-ltb m.width n h)

        module _ (short : n ≤ m.width) where
          pub prefix_ragged : ragged m.width p n ≡ true → Says (some NoPrefix)
          unfolding update_refusal when
          prefix_ragged e = rw (le-ltb 255 r low, live_not (rule_at m r) free, lt-leb m.plan.links l known, le-ltb m.width n short, e)

          module _ (whole : ragged m.width p n ≡ false) where
            pub rule_clashes : clashes m (rule_word m.width l p n t) ≡ true → Says (some Tie)
            unfolding update_refusal when
            rule_clashes e = rw (le-ltb 255 r low, live_not (rule_at m r) free, lt-leb m.plan.links l known, le-ltb m.width n short, whole, e)

            module _ (apart : clashes m (rule_word m.width l p n t) ≡ false) where
              pub cuts_many : 512 < m.atoms.count + added m (rule_word m.width l p n t) → Says (some CutsFull)
              unfolding update_refusal when
              cuts_many h =
                  rw (le-ltb 255 r low, live_not (rule_at m r) free, lt-leb m.plan.links l known, le-ltb m.width n short, whole, apart, lt-ltb 512 (m.atoms.count + added m (rule_word m.width l p n t)) h)

              pub passes : m.atoms.count + added m (rule_word m.width l p n t) ≤ 512 → Says none
              unfolding update_refusal when
              passes h =
                  rw (le-ltb 255 r low, live_not (rule_at m r) free, lt-leb m.plan.links l known, le-ltb m.width n short, whole, apart, le-ltb 512 (m.atoms.count + added m (rule_word m.width l p n t)) h)

-- ---- a remove

module _ (m : State) (r : ℕ) where
  pub remove_high : 255 < r → update_refusal m (remove r) ≡ some NoRule
  unfolding update_refusal when
  remove_high h = rw (lt-ltb 255 r h)

  pub remove_free : r ≤ 255 → rule_at m r ≡ 0 → update_refusal m (remove r) ≡ some RuleNotLive
  unfolding update_refusal when
  remove_free low e = rw (le-ltb 255 r low, live_not (rule_at m r) e)

  pub remove_passes : r ≤ 255 → (rule_at m r ≡ 0 → ⊥) → update_refusal m (remove r) ≡ none
  unfolding update_refusal when
  remove_passes low h = rw (le-ltb 255 r low, live_is (rule_at m r) h)

pub record ClearLink (p : Plan) (s c e : ℕ) : Type 0 where
  pub room : p.links < 64
  pub source : s < p.nodes
  pub code : c ≤ 2
  pub drop : c ≡ 2 → e ≡ 0
  pub node : c ≡ 0 → e < p.nodes

pub clear_link : (p : Plan) (s c e : ℕ) → set_up_refusal p (link s c e) ≡ none → ClearLink p s c e
unfolding set_up_refusal
clear_link p s c e ok =
    let a = when_none _ _ _ ok in
    let b = when_none _ _ _ a.1 in
    let d = when_none _ _ _ b.1 in
    let f = when_none _ _ _ d.1 in
    let g = or_neither (ltb 2 c) (eqb c 2 && not (eqb e 0)) d.0 in
    record {
      room = leb-false 64 p.links a.0;
      source = leb-false p.nodes s b.0;
      code = ltb-false 2 c g.0;
      drop = λ z. eqb-true e 0 (not-false _ (rw (eq-eqb c 2 z) at g.1));
      node = λ z. leb-false p.nodes e (rw (eq-eqb c 0 z) at f.0);
    }

pub record Clear (m : State) (r l p n t : ℕ) : Type 0 where
  pub number : r < 256
  pub free : live (rule_at m r) ≡ false
  pub declared : l < m.plan.links
  pub long : n ≤ m.width
  pub flush : p % span m.width n ≡ 0
  pub alone : clashes m (rule_word m.width l p n t) ≡ false
  pub room : m.atoms.count + added m (rule_word m.width l p n t) ≤ 512

pub clear : (m : State) (r l p n t : ℕ) → update_refusal m (insert r l p n t) ≡ none → Clear m r l p n t
unfolding update_refusal ragged
clear m r l p n t ok =
    let a = when_none _ _ _ ok in
    let b = when_none _ _ _ a.1 in
    let c = when_none _ _ _ b.1 in
    let d = when_none _ _ _ c.1 in
    let e = when_none _ _ _ d.1 in
    let f = when_none _ _ _ e.1 in
    let g = or_neither (ltb m.width n) (not (eqb (p % span m.width n) 0)) d.0 in
    record {
      number = omega (arith, ltb-false 255 r a.0);
      free = b.0;
      declared = leb-false m.plan.links l c.0;
      long = ltb-false m.width n g.0;
      flush = eqb-true _ 0 (not-false _ g.1);
      alone = e.0;
      room = ltb-false 512 (m.atoms.count + added m (rule_word m.width l p n t)) f.0;
    }

pub record ClearRemove (m : State) (r : ℕ) : Type 0 where
  pub number : r < 256
  pub alive : live (rule_at m r) ≡ true

pub clear_remove : (m : State) (r : ℕ) → update_refusal m (remove r) ≡ none → ClearRemove m r
unfolding update_refusal
clear_remove m r ok =
    let a = when_none _ _ _ ok in
    record { number = omega (arith, ltb-false 255 r a.0); alive = not-false _ (when_none _ _ _ a.1).0 }
