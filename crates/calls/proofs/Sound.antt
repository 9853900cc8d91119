-- Every history of calls from a typed program is sound.
use Rattle.std.proofs.Common.{◌≡◌, ℕ, Bool, true, false, ◌||◌, ◌⊎◌, List, [], Some, sym, ap, ◌∙◌, subst, inl, inr, arith}
use Rattle.calculus.specs.Terms.{Term, suspension, Program, Value, is_value, is_suspension}
use Rattle.calculus.specs.Rows.{Setting, WellFormed}
use Rattle.calculus.specs.Typing.{Typed}
use Rattle.calculus.specs.Configurations.{Configuration, ◌∣◌}
use Rattle.calculus.specs.Next.{next}
use Rattle.calculus.specs.Outcomes as Outcomes
use Rattle.calculus.specs.Histories.{History, Lasts, Safe}
use Rattle.calculus.proofs.Agreement.{agrees}
use Rattle.calculus.proofs.Histories.{always}
use Rattle.calculus.proofs.Lasting.{lasting}
use Rattle.image.specs.Images.{Image}
use Rattle.image.specs.Stepping.{rests}
use Rattle.calls.specs.Histories.{Call, Point, Follows}
use Rattle.calls.specs.Soundness.{SoundAt, BindingsLast, SoundFrom}
use Rattle.image.proofs.Exact.{image_reads}
use Rattle.calls.proofs.Stopping.{later_still, HasSuccessors}
use Rattle.calls.proofs.Points.{Stands, follows_on}
use Rattle.calls.proofs.Single.{single, refusals}

-- an image stands for one configuration
same_configuration : {image : List ℕ} {c d : Configuration} → Image image c → Image image d → c ≡ d
same_configuration {image} {c} {d} i j = let a = image_reads image c i in let b = image_reads image d j in cc

module _ (S : Setting) (L : WellFormed S) (p : Term) (g : Program p) (T Y : ℕ) (d : Typed S [] [] p T Y) where
  -- every configuration of a history is safe
  safe : (c : Configuration) → History S.set p c.term c.bindings → Safe S c.term c.bindings T Y
  safe c h = always S L p g T Y d c.term c.bindings h

  -- so it has a successor where it is neither a value nor a suspension
  has_successors : (c : Configuration) → History S.set p c.term c.bindings → HasSuccessors S.set c
  has_successors c h e k r = by (safe e (later_still S.set h k)).outcome.one_of
    where
      rested : (v u : Bool) → v ≡ true → (v || u) ≡ false → ◌≡◌ {A = ℕ} 0 1
      rested true u a b = cc
      rested false u a b = cc

      offered : Outcomes.Offering S e.term e.bindings Y → ◌≡◌ {A = ℕ} 0 1
      offered o =
          let a : rests (suspension o.suspended o.pending) ≡ false = ap rests (sym o.term_is) ∙ r in cc

      by : Value e.term ⊎ (Outcomes.Offering S e.term e.bindings Y ⊎ Outcomes.Going S.set e.term e.bindings) →
          (n : Configuration) × (next S.set e.term e.bindings ≡ Some n)
      by (inl v) = let z : ◌≡◌ {A = ℕ} 0 1 = rested (is_value e.term) (is_suspension e.term) v r in absurd (omega arith)
      by (inr (inl o)) = let z : ◌≡◌ {A = ℕ} 0 1 = offered o in absurd (omega arith)
      by (inr (inr s)) =
          (s.next_term ∣ s.next_bindings, (agrees S.set e.term e.bindings s.next_term s.next_bindings).0 s.step)

  -- at each point of a history
  module _ (start : Point) (s : Stands start (p ∣ [])) where
    at_point : (calls : List Call) (q : Point) → Follows S.set start calls q → SoundAt S T Y q
    at_point calls q f =
        let o = follows_on S.set L.set_lawful f (p ∣ []) s in
        let c = o.next_one in
        let k = safe c o.later in
        record {
          configuration = c;
          is_image = o.stands.is_image;
          status_is = o.stands.status_is;
          well_typed = k.well_typed;
          outcome = k.outcome;
          single_step = single S.set q c o.stands;
          refused_only_by = refusals S.set q c o.stands (has_successors c o.later);
          resumptions = k.resumptions;
        }

    last_on : (calls : List Call) (q : Point) → Follows S.set start calls q → (more : List Call) (r : Point) → Follows S.set q more r →
        BindingsLast S.set q r
    last_on calls q f more r h c e i j =
        let o = follows_on S.set L.set_lawful f (p ∣ []) s in
        let a = follows_on S.set L.set_lawful h o.next_one o.stands in
        let x : o.next_one ≡ c = same_configuration o.stands.is_image i in
        let y : a.next_one ≡ e = same_configuration a.stands.is_image j in
        let l = (lasting S.set p o.next_one.term a.next_one.term o.next_one.bindings a.next_one.bindings o.later a.later).1 in
        subst (λ (b : Configuration). Lasts S.set c.term c.bindings b.term b.bindings) y
        (subst (λ (b : Configuration). Lasts S.set b.term b.bindings a.next_one.term a.next_one.bindings) x l)

    pub sound_from : SoundFrom S T Y start
    sound_from calls q f = (at_point calls q f, last_on calls q f)
