-- Preservation: a step keeps the type and the yield type; the rows of the labels only grow.
use Rattle.std.proofs.Common.{◌≡◌, ℕ, suc, List, [], ◌∷◌, ◌++◌, Some, sym, refl, ap, ◌∙◌, inl, inr, arith}
use Rattle.calculus.specs.Lists.{at, Prefix}
use Rattle.calculus.specs.Terms.{Term, suspension, Value}
use Rattle.calculus.specs.Replacement.{replace}
use Rattle.calculus.specs.Rows.{function_type, coroutine_type, instance_type, Setting, IsRow, Is, WellFormed}
use Rattle.calculus.specs.Typing.{InScope, Reads, as_is, raised, Typed, t_any_yield, t_unit, t_apply_coroutine, t_fix, t_atom, t_instance, t_resumption, t_suspension}
use Rattle.calculus.specs.Configurations.{Binding, empty, ready, row_of, Bindings, rows}
use Rattle.calculus.specs.Lines.{e_pause, e_apply, e_apply_coroutine, e_fix, e_yield, e_start, e_resume_ready, e_resume_empty, e_capture, e_terminate, e_snapshot, e_operate}
use Rattle.calculus.specs.Steps.{Step, line, e_context, e_executing}
use Rattle.calculus.specs.WellTyped.{BindingsTyped, WellTyped}
use Rattle.calculus.specs.Statements.{Preservation}
use Rattle.calculus.proofs.Weakening.{longer_refl}
use Rattle.calculus.proofs.Inversion.{Takes, inverse}
use Rattle.calculus.proofs.Substitution.{substitution}
use Rattle.calculus.proofs.Rows.{closed, regular}
use Rattle.calculus.proofs.Bindings.{at_appended, at_put, at_rows, rows_last, rows_append, rows_put, grown_longer, grown_same, binding_longer, bindings_change}
use Rattle.calculus.proofs.Values.{quiet_value, no_bottom}
use Rattle.calculus.proofs.Frames.{retype, reyield, raise, with_more_labels, held}
use Rattle.calculus.proofs.Growth.{grows}

pub record After (S : Setting) (μ : Bindings) (t' : Term) (μ' : Bindings) (T Y : ℕ) : Type 0 where
  pub typed : Typed S (rows μ') [] t' T Y
  pub bindings_typed : BindingsTyped S (rows μ') μ'
  pub grown : Prefix (rows μ) (rows μ')

pub nil : {S : Setting} → InScope S []
nil = record { is_row = λ n T e. let z : ◌≡◌ {A = ℕ} 0 1 = cc in absurd (omega arith) }

stay : {S : Setting} {μ : Bindings} {t : Term} {T Y : ℕ} → BindingsTyped S (rows μ) μ → Typed S (rows μ) [] t T Y → After S μ t μ T Y
stay st d = record { typed = d; bindings_typed = st; grown = grown_same refl }

module _ (S : Setting) {r s : ℕ} where
  same_function : {A B C D : ℕ} → Is S r (function_type A B) → r ≡ s → Is S s (function_type C D) → (A ≡ C) × (B ≡ D)
  same_function e q h = (cc, cc)

  same_coroutine : {A B C D W X : ℕ} → Is S r (coroutine_type A W B) → r ≡ s → Is S s (coroutine_type C X D) → (A ≡ C) × (W ≡ X) × (B ≡ D)
  same_coroutine e q h = (cc, cc, cc)

  same_instance : {B D W X : ℕ} → Is S r (instance_type W B) → r ≡ s → Is S s (instance_type X D) → (W ≡ X) × (B ≡ D)
  same_instance e q h = (cc, cc)

  applied_function : {A B C D W : ℕ} → Takes S r A B W → r ≡ s → Is S s (function_type C D) → (A ≡ C) × (B ≡ D)
  applied_function (inl e) q h = (cc, cc)
  applied_function (inr e) q h = (cc, cc)

  applied_coroutine : {A B C D W X : ℕ} → Takes S r A B W → r ≡ s → Is S s (coroutine_type C X D) → (A ≡ C) × (W ≡ X) × (B ≡ D)
  applied_coroutine (inl e) q h = (cc, cc, cc)
  applied_coroutine (inr e) q h = (cc, cc, cc)

module _ {S : Setting} (L : WellFormed S) where
  -- a value's type is not ⊥, so it is not read as another
  pub solid : {Σ : List ℕ} {v : Term} {W Y Z : ℕ} → Value v → Typed S Σ [] v W Z → Reads S W Y → W ≡ Y
  solid h d (as_is e) = e
  solid h d (raised e y) = absurd (no_bottom L h (retype e d))

  yield_row : {Σ : List ℕ} {t : Term} {T Y : ℕ} → Typed S Σ [] t T Y → IsRow S Y
  yield_row d = (regular L nil d).1

  pub preserve : {t t' : Term} {μ μ' : Bindings} {T Y : ℕ} → BindingsTyped S (rows μ) μ → Step S.set t μ t' μ' →
      Typed S (rows μ) [] t T Y → After S μ t' μ' T Y
  preserve st (e_context F {t = t} p s) d =
      let h = held F {t = t} d in let a = preserve st s h.typed in
      record { typed = h.back (grown_longer a.grown) a.typed; bindings_typed = a.bindings_typed; grown = a.grown }
  preserve st (e_executing s) d =
      let i = inverse d in let u = i.rule in let a = preserve st s u.body in let l = grown_longer a.grown in
      record {
        typed =
            raise i.reads (t_resumption (l.still _ _ u.label_is) u.row_is u.second_is u.third_is u.fourth_is a.typed
            (with_more_labels l u.second) (with_more_labels l u.third) (with_more_labels l u.fourth));
        bindings_typed = a.bindings_typed;
        grown = a.grown;
      }
  preserve st (line (e_pause F t v p)) d =
      let h = held F {t = suspension t v} d in
      let k = inverse h.typed in
      let u = k.rule in
      let e₁ = solid u.pending_value u.pending k.reads in
      let e₂ = solid u.pending_value (retype e₁ u.pending) h.reads in
      stay st (t_suspension u.pending_value (h.back longer_refl (reyield e₁ u.suspended)) (retype (e₁ ∙ e₂) u.pending))
  preserve st (line (e_apply h)) d =
      let i = inverse d in let u = i.rule in let w = (inverse u.first).rule in
      let q = applied_function S u.row_takes w.type_is w.row_is in
      stay st (t_any_yield (yield_row d) (retype (sym q.1) (substitution (retype q.0 (quiet_value h u.second)) w.body)))
  preserve st (line (e_apply_coroutine h)) d =
      let i = inverse d in let u = i.rule in let w = (inverse u.first).rule in
      let q = applied_coroutine S u.row_takes w.type_is w.row_is in
      stay st (raise i.reads (reyield (sym q.1) (retype (sym q.2)
      (substitution (retype q.0 (quiet_value h u.second)) w.body))))
  preserve st (line e_fix) d =
      let i = inverse d in let u = i.rule in let w = (inverse u.function).rule in
      let q = same_function S u.row_is w.type_is w.row_is in
      stay st (t_any_yield (yield_row d) (retype (sym q.1) (substitution (retype q.0 (t_fix u.row_is u.function)) w.body)))
  preserve st (line (e_yield h)) d =
      let i = inverse d in let u = i.rule in
      stay st (raise i.reads (retype (sym u.type_is) (t_suspension h (t_any_yield (yield_row u.offered) t_unit)
      (quiet_value h u.offered))))
  preserve st (line (e_start {i = j} {x = x} {b = b} {v = v} {μ = μ} h)) d =
      let i = inverse d in let u = i.rule in let w = (inverse u.first).rule in
      let q = same_coroutine S u.row_is w.type_is w.row_is in
      let γ : Binding = ready j (replace x v b) in
      let g : Prefix (rows μ) (rows (μ ++ γ ∷ [])) = record { more = j ∷ []; is = rows_append μ γ } in
      let l = grown_longer g in
      let body = reyield (sym q.1) (retype (sym q.2) (substitution (retype q.0 (quiet_value h u.second)) w.body)) in
      record {
        typed = t_any_yield (yield_row d) (retype (sym u.type_is) (t_instance (rows_last μ γ) u.start_is));
        bindings_typed =
            bindings_change S l γ (at_appended μ γ) (record {
              yields = u.yields;
              result = u.result;
              row_is = u.start_is;
              body_typed = with_more_labels l body;
            }) st;
        grown = g;
      }
  preserve st (line (e_resume_ready {l = n} {i = j} {t = t} {μ = μ} hb hc hd e)) d =
      let i = inverse d in let u = i.rule in let w = (inverse u.first).rule in
      let b = st.each n (ready j t) e in
      let a = at_rows μ n e in
      let z : u.row ≡ j = cc (w.type_is, w.label_is) in
      let a' : at (rows μ) n ≡ Some u.row = cc (w.type_is, w.label_is) in
      let q = same_instance S u.row_is z b.row_is in
      let g = grown_same (rows_put μ n (ready j t) (empty j) e refl) in
      let l = grown_longer g in
      record {
        typed =
            raise i.reads
            (t_resumption (l.still _ _ a') u.row_is u.second_is u.third_is u.fourth_is
            (with_more_labels l (reyield (sym q.0) (retype (sym q.1) b.body_typed))) (with_more_labels l u.second)
            (with_more_labels l u.third) (with_more_labels l u.fourth));
        bindings_typed =
            bindings_change S l (empty j) (at_put μ n (empty j)) (record {
              yields = b.yields;
              result = b.result;
              row_is = b.row_is;
              body_typed = tt;
            }) st;
        grown = g;
      }
  preserve st (line (e_resume_empty hb hc hd e)) d =
      let i = inverse d in let u = i.rule in
      stay st (raise i.reads (t_apply_coroutine u.fourth_is u.fourth (t_any_yield (yield_row u.fourth) t_unit)))
  preserve st (line (e_capture {l = n} {i = j} {t = t} {μ = μ} e)) d =
      let i = inverse d in let u = i.rule in let k = inverse u.body in let v = k.rule in
      let s = solid v.pending_value v.pending k.reads in
      let a = at_rows μ n e in
      let z : u.row ≡ j = cc u.label_is in
      let g = grown_same (rows_put μ n (empty j) (ready j t) e refl) in
      let l = grown_longer g in
      record {
        typed =
            with_more_labels l (raise i.reads (t_apply_coroutine u.third_is u.third
            (t_any_yield (yield_row u.third) (retype s v.pending))));
        bindings_typed =
            bindings_change S l (ready j t) (at_put μ n (ready j t)) (record {
              yields = u.yields;
              result = u.result;
              row_is = rw z at u.row_is;
              body_typed = with_more_labels l (reyield s v.suspended);
            }) st;
        grown = g;
      }
  preserve st (line (e_terminate h e)) d =
      let i = inverse d in let u = i.rule in
      stay st (raise i.reads (t_apply_coroutine u.second_is u.second
      (t_any_yield (yield_row u.second) (quiet_value h u.body))))
  preserve st (line (e_snapshot {l = n} {r = r} {β = β} {μ = μ} e)) d =
      let i = inverse d in let u = i.rule in let w = (inverse u.copied).rule in
      let a = at_rows μ n e in
      let z : r ≡ row_of β = cc w.label_is in
      let g : Prefix (rows μ) (rows (μ ++ β ∷ [])) = record { more = row_of β ∷ []; is = rows_append μ β } in
      record {
        typed = t_any_yield (yield_row d) (retype (sym (w.type_is ∙ z)) (t_instance (rows_last μ β) (st.each n β e).row_is));
        bindings_typed = bindings_change S (grown_longer g) β (at_appended μ β) (binding_longer S (grown_longer g) (st.each n β e)) st;
        grown = g;
      }
  preserve st (line (e_operate {s = s} e p q)) d =
      let i = inverse d in let u = i.rule in
      let z : s ≡ u.signature = cc u.signature_is in
      let c = closed L _ _ e in
      stay st (t_any_yield (yield_row d) (retype (ap (λ x. suc (suc x.result)) z ∙ sym u.type_is) (t_atom c.2 (c.3 _ _ p q))))

  pub keeps_well_typed : {t t' : Term} {μ μ' : Bindings} {T Y : ℕ} → Step S.set t μ t' μ' → WellTyped S t μ T Y →
      WellTyped S t' μ' T Y × Prefix (rows μ) (rows μ')
  keeps_well_typed s h =
      let a = preserve h.bindings_typed s h.typed in (record { typed = a.typed; bindings_typed = a.bindings_typed }, a.grown)

pub take_well_typed : {S : Setting} {t v : Term} {μ : Bindings} {T Y : ℕ} → WellTyped S (suspension t v) μ T Y → WellTyped S t μ T Y
take_well_typed h =
    let i = inverse h.typed in record { typed = raise i.reads i.rule.suspended; bindings_typed = h.bindings_typed }

pub preservation : Preservation
preservation = (λ S L t t' μ μ' T Y h s. ((keeps_well_typed L s h).0, grows s), λ S u v μ T Y h. take_well_typed h)
