-- In every history of a typed program the configuration stays well typed and of good shape.
use Rattle.std.proofs.Common.{◌≡◌, ℕ, [], arith}
use Rattle.calculus.specs.Terms.{Term, unit, variable, abstraction, coroutine, application, yield, start, resume, snapshot, fix, atom, operation, instance, resumption, suspension, Program}
use Rattle.calculus.specs.Rows.{Setting, WellFormed}
use Rattle.calculus.specs.Typing.{Typed}
use Rattle.calculus.specs.Configurations.{Bindings, Configured}
use Rattle.calculus.specs.Places.{path}
use Rattle.calculus.specs.Shape.{Plain, p_plain, Shaped}
use Rattle.calculus.specs.WellTyped.{WellTyped}
use Rattle.calculus.specs.Histories.{History, at_once, then_step, then_take}
use Rattle.calculus.specs.Statements.{Always}
use Rattle.calculus.proofs.Growth.{grows}
use Rattle.calculus.proofs.Preservation.{keeps_well_typed, take_well_typed}
use Rattle.calculus.proofs.Configured.{keeps_configured, take_configured, program_configured}
use Rattle.calculus.proofs.Resumptions.{resumptions_on_path}
use Rattle.calculus.proofs.ShapeKept.{keeps_shape, take_shape}
use Rattle.calculus.proofs.Progress.{outcome}

program_plain : (t : Term) → Program t → Plain t
program_plain unit p = tt
program_plain (variable n) p = tt
program_plain (abstraction x r b) p = program_plain b p
program_plain (coroutine x r b) p = program_plain b p
program_plain (application f a) p = (program_plain f p.0, program_plain a p.1)
program_plain (yield t) p = program_plain t p
program_plain (start i f a) p = (program_plain f p.0, program_plain a p.1)
program_plain (resume a b c d) p = (program_plain a p.0, program_plain b p.1, program_plain c p.2, program_plain d p.3)
program_plain (snapshot t) p = program_plain t p
program_plain (fix t) p = program_plain t p
program_plain (atom k q) p = tt
program_plain (operation o a b) p = (program_plain a p.0, program_plain b p.1)
program_plain (instance l r) p = absurd p
program_plain (resumption l a b c d) p = absurd p
program_plain (suspension t v) p = absurd p

module _ (S : Setting) (L : WellFormed S) where
  module _ (p : Term) (prog : Program p) (T Y : ℕ) (d : Typed S [] [] p T Y) where
    start_well_typed : WellTyped S p [] T Y
    start_well_typed =
        record { typed = d; bindings_typed = record { each = λ l β e. let z : ◌≡◌ {A = ℕ} 0 1 = cc in absurd (omega arith) } }

    start_shape : Shaped p []
    start_shape = record {
      labels = [];
      active = p_plain (program_plain p prog);
      distinct = tt;
      empties = tt;
      bodies = record { plain = λ l i t e. let z : ◌≡◌ {A = ℕ} 0 1 = cc in absurd (omega arith) };
    }

    kept : {t : Term} {μ : Bindings} → History S.set p t μ → WellTyped S t μ T Y × Shaped t μ × Configured t μ
    kept at_once = (start_well_typed, start_shape, program_configured p prog)
    kept (then_step h s) = let k = kept h in ((keeps_well_typed L s k.0).0, keeps_shape s k.1, keeps_configured k.2 s)
    kept (then_take h) = let k = kept h in (take_well_typed k.0, take_shape k.1, take_configured k.2)

pub always : Always
always S L p g T Y d t μ h =
    let k = kept S L p g T Y d h in
    let q = resumptions_on_path t μ k.1 in
    record {
      configured = k.2;
      well_typed = k.0;
      shaped = k.1;
      resumptions = q;
      outcome = outcome S L t μ T Y k.0 (λ l r. q.binding_empty (path t) l r);
      growth = λ t' μ' s. grows s;
    }
