-- What an accepted insert and remove change: the winners where the rule wins or had won and nowhere else, the labels of its own node alone;
-- and a split changes no label. Assumes nothing.
use mathlib.Core.Path.{◌≡◌, refl, sym, ap, ◌∙◌}
use mathlib.Core.Logic.{◌↔◌}
use mathlib.Core.Bool.{true, false, not}
use mathlib.Core.Option.{Option, none}
use mathlib.Core.List.{List}
use Prim.Native.Nat.{ℕ, ◌/◌, ◌≤◌, ◌<◌}
use native.Mathlib.Decide.{ℕ_discrete}
use lib.ListN.{get_or}
use borrow.Author.Tests.{eqb-false, ne_eqb, not-true}
use Rattle.meaning.specs.declared.hall.Phase.TheVariants.{Closed}
use Rattle.meaning.specs.Hall.{top, State, source_of}
use Rattle.meaning.specs.Winner.{rule_at, winner, link_for, next_at, node_for}
use Rattle.meaning.specs.Atoms.{with_cut, is_boundary}
use Rattle.meaning.specs.Labels.{names, is_on}
use Rattle.meaning.specs.Changes.{changed_at}
use Rattle.meaning.specs.Step.{with_rule, inserted, node_of, updated, update_refusal}
use Rattle.meaning.specs.Records.{insert, remove}
use Rattle.meaning.specs.Tables.{Sound}
use Rattle.meaning.proofs.records.Fields.{Sized, FitsUpdate}
use Rattle.meaning.proofs.records.Checks.{clear}
use Rattle.meaning.proofs.sound.Kept.{keeps_update, keeps_cut}
use Rattle.meaning.proofs.rules.Covers.{cut_alike, next_same}
use Rattle.meaning.proofs.document.Atoms.{InAtom, on_each}
use Rattle.meaning.proofs.document.Winners.{insert_stores, insert_others}
use Rattle.meaning.proofs.sound.OneRule.{Joined, never, stays, where_wins, goes}

-- ---- a split

-- an atom that arises by a split is on every link that the split atom was on: of each address, the atom after is on the links that the atom before was on
pub split_labels : (m : State) (S : Sound m) (b : ℕ) → b ≤ top m → (is_boundary m b ≡ false → m.atoms.count < 512)
    → (l j k a : ℕ) → InAtom m j a → InAtom (with_cut m b) k a → is_on (with_cut m b) l k ≡ is_on m l j
split_labels m S b bt room l j k a x y =
    let e : source_of (with_cut m b) l ≡ source_of m l = unfold with_cut source_of in refl in
    on_each (with_cut m b) (keeps_cut m S b bt room) l k a y
    ∙ ap (λ (o : Option ℕ). names o l) (ap (next_at (with_cut m b) a) e ∙ next_same (cut_alike m b) a (source_of m l))
    ∙ sym (on_each m S l j a x)

-- ---- one rule more

-- n has the rules of m and rule r besides, which has the word z and stands at node u
module _ (m n : State) (r z u : ℕ) (J : Joined m n r z u) (v a : ℕ) where
  -- the winner differs exactly where that rule wins
  pub differs : (winner m v a ≡ winner n v a → ⊥) ↔ (winner n v a ≡ r)
  differs = (λ f. go f (ℕ_discrete (winner n v a) r), λ e q. never m n r z u J v a (q ∙ e))
    where
      go : (winner m v a ≡ winner n v a → ⊥) → Dec (winner n v a ≡ r) → winner n v a ≡ r
      go f (yes e) = e
      go f (no d) = absurd (f (stays m n r z u J v a d))

  -- and elsewhere a packet goes the same way
  pub same_way : (winner n v a ≡ r → ⊥) → next_at n a v ≡ next_at m a v
  unfolding next_at link_for
  same_way f =
      rw (J.others (winner n v a) f, ← stays m n r z u J v a f, J.width)

-- the labels of another node's links stay: of each address, the atom after is on the links that the atom before was on
same_label : (m n : State) (r z u : ℕ) → Joined m n r z u → (l : ℕ) → (source_of m l ≡ u → ⊥) → (j k a : ℕ) → InAtom m j a → InAtom n k a → is_on n l k ≡ is_on m l j
unfolding source_of
same_label m n r z u J l h j k a x y =
    on_each n J.more l k a y
    ∙ ap (λ (o : Option ℕ). names o l)
    (ap (λ (ls : List ℕ). next_at n a (get_or ls l 0 / 1024)) J.links
    ∙ same_way m n r z u J (source_of m l) a (λ e. h (where_wins m n r z u J (source_of m l) a e).0))
    ∙ sym (on_each m J.less l j a x)

-- ---- an accepted insert

module _ (m : State) (S : Sound m) (r l p n t : ℕ) (F : Sized m.width l p t) (ph : m.plan.phase ≡ Closed) (ok : update_refusal m (insert r l p n t) ≡ none) where
  abbrev with_it : State
  with_it = updated m (insert r l p n t)

  inserts : Joined m with_it r (rule_at with_it r) (source_of m l)
  inserts = record {
    width = unfold updated inserted with_rule with_cut in refl;
    less = S;
    more = keeps_update m (insert r l p n t) S (unfold FitsUpdate in F) ph ok;
    slot = (clear m r l p n t ok).number;
    links = unfold updated inserted with_rule with_cut in refl;
    free = (clear m r l p n t ok).free;
    word = refl;
    alive = (insert_stores m S r l p n t F ok).alive;
    node = ap (source_of with_it) (insert_stores m S r l p n t F ok).link ∙ (unfold updated inserted with_rule with_cut source_of in refl);
    others = insert_others m S r l p n t F ok;
  }

  -- THE LAW: an insert lists a place of its node exactly when the new rule wins there
  pub insert_lists : (v q : ℕ) → (changed_at m with_it v q ≡ true) ↔ (winner with_it v (get_or with_it.atoms.cut q 0) ≡ r)
  unfolding changed_at
  insert_lists v q =
      let a = get_or with_it.atoms.cut q 0 in
      let d = differs m with_it r (rule_at with_it r) (source_of m l) inserts v a in
      (λ e. d.0 (eqb-false _ _ (not-true _ e)), λ e. ap not (ne_eqb _ _ (d.1 e)))

  -- THE LAW: the labels of every other node's links stay as they were
  pub insert_elsewhere : (k : ℕ) → (source_of m k ≡ source_of m l → ⊥) → (i j a : ℕ) → InAtom m i a → InAtom with_it j a → is_on with_it k j ≡ is_on m k i
  insert_elsewhere = same_label m with_it r (rule_at with_it r) (source_of m l) inserts

-- ---- an accepted remove

module _ (m : State) (S : Sound m) (r : ℕ) (ph : m.plan.phase ≡ Closed) (ok : update_refusal m (remove r) ≡ none) where
  abbrev without : State
  without = updated m (remove r)

  removes : Joined without m r (rule_at m r) (node_for m (rule_at m r))
  removes = unfold updated node_of in goes m r S ph ok (node_for m (rule_at m r)) refl

  -- THE LAW: a remove lists a place of its node exactly when the removed rule had won there
  pub remove_lists : (v q : ℕ) → (changed_at m without v q ≡ true) ↔ (winner m v (get_or without.atoms.cut q 0) ≡ r)
  unfolding changed_at
  remove_lists v q =
      let a = get_or without.atoms.cut q 0 in
      let d = differs without m r (rule_at m r) (node_for m (rule_at m r)) removes v a in
      (λ e. d.0 (λ z. eqb-false _ _ (not-true _ e) (sym z)), λ e. ap not (ne_eqb _ _ (λ z. d.1 e (sym z))))

  -- THE LAW: the labels of every other node's links stay as they were
  pub remove_elsewhere : (k : ℕ) → (source_of m k ≡ node_for m (rule_at m r) → ⊥) → (i j a : ℕ) → InAtom m i a → InAtom without j a → is_on without k j ≡ is_on m k i
  unfolding updated with_rule source_of
  remove_elsewhere k h i j a x y = sym (same_label without m r (rule_at m r) (node_for m (rule_at m r)) removes k h j i a y x)
