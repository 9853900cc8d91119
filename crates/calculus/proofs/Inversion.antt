-- Inversion: what the rule for each term says, reading the yield type ⊥ as another taken off.
use Rattle.std.proofs.Common.{◌≡◌, ℕ, suc, ◌<◌, true, ◌⊎◌, List, Some, refl, inl, inr}
use Rattle.quantities.specs.declared.Signature.{Signature}
use Rattle.calculus.specs.Lists.{at}
use Rattle.calculus.specs.Terms.{Term, unit, variable, abstraction, coroutine, application, yield, start, resume, snapshot, fix, atom, operation, instance, resumption, suspension, Value}
use Rattle.calculus.specs.Rows.{function_type, coroutine_type, instance_type, Setting, IsRow, Is}
use Rattle.calculus.specs.Typing.{Scope, bind, look, Reads, as_is, raised, Typed, t_any_yield, t_unit, t_variable, t_abstraction, t_coroutine, t_apply, t_apply_coroutine, t_yield, t_start, t_resume, t_snapshot, t_fix, t_atom, t_operation, t_instance, t_resumption, t_suspension}

-- what is read as ⊥ is read as any row
pub read_again : {S : Setting} {W Y : ℕ} → IsRow S Y → Reads S W 1 → Reads S W Y
read_again y (as_is e) = raised e y
read_again y (raised e _) = raised e y

-- r takes an A and gives a B, under the yield row Y
abbrev pub Takes : Setting → ℕ → ℕ → ℕ → ℕ → Type 0
Takes S r A B Y = Is S r (function_type A B) ⊎ Is S r (coroutine_type A Y B)

module _ (S : Setting) (Σ : List ℕ) (Γ : Scope) where
  -- What the rule for a term says: the rows it speaks of, what stands there, and the typings of the parts.
  pub record AbstractionRule (x r : ℕ) (b : Term) (T Y : ℕ) : Type 0 where
    pub argument : ℕ
    pub result : ℕ
    pub type_is : T ≡ r
    pub yields_is : Y ≡ 1
    pub row_is : Is S r (function_type argument result)
    pub body : Typed S Σ (bind x argument Γ) b result 1

  pub record CoroutineRule (x r : ℕ) (b : Term) (T Y : ℕ) : Type 0 where
    pub argument : ℕ
    pub yields : ℕ
    pub result : ℕ
    pub type_is : T ≡ r
    pub yields_is : Y ≡ 1
    pub row_is : Is S r (coroutine_type argument yields result)
    pub body : Typed S Σ (bind x argument Γ) b result yields

  pub record ApplicationRule (f a : Term) (T Y : ℕ) : Type 0 where
    pub row : ℕ
    pub argument : ℕ
    pub row_takes : Takes S row argument T Y
    pub first : Typed S Σ Γ f row Y
    pub second : Typed S Σ Γ a argument Y

  pub record YieldRule (t : Term) (T Y : ℕ) : Type 0 where
    pub type_is : T ≡ 0
    pub offered : Typed S Σ Γ t Y Y

  pub record StartRule (i : ℕ) (f a : Term) (T Y : ℕ) : Type 0 where
    pub row : ℕ
    pub argument : ℕ
    pub yields : ℕ
    pub result : ℕ
    pub type_is : T ≡ i
    pub start_is : Is S i (instance_type yields result)
    pub row_is : Is S row (coroutine_type argument yields result)
    pub first : Typed S Σ Γ f row Y
    pub second : Typed S Σ Γ a argument Y

  pub record ResumeRule (a b c d : Term) (T Y : ℕ) : Type 0 where
    pub row : ℕ
    pub row_second : ℕ
    pub row_third : ℕ
    pub row_fourth : ℕ
    pub yields : ℕ
    pub result : ℕ
    pub row_is : Is S row (instance_type yields result)
    pub second_is : Is S row_second (coroutine_type result Y T)
    pub third_is : Is S row_third (coroutine_type yields Y T)
    pub fourth_is : Is S row_fourth (coroutine_type 0 Y T)
    pub first : Typed S Σ Γ a row Y
    pub second : Typed S Σ Γ b row_second Y
    pub third : Typed S Σ Γ c row_third Y
    pub fourth : Typed S Σ Γ d row_fourth Y

  pub record SnapshotRule (t : Term) (T Y : ℕ) : Type 0 where
    pub yields : ℕ
    pub result : ℕ
    pub row_is : Is S T (instance_type yields result)
    pub copied : Typed S Σ Γ t T Y

  pub record FixRule (t : Term) (T Y : ℕ) : Type 0 where
    pub row : ℕ
    pub yields_is : Y ≡ 1
    pub row_is : Is S row (function_type T T)
    pub function : Typed S Σ Γ t row 1

  pub record OperationRule (o : ℕ) (a b : Term) (T Y : ℕ) : Type 0 where
    pub signature : Signature
    pub type_is : T ≡ suc (suc signature.result)
    pub signature_is : S.set.signature o ≡ Some signature
    pub first : Typed S Σ Γ a (suc (suc signature.first)) Y
    pub second : Typed S Σ Γ b (suc (suc signature.second)) Y

  pub record InstanceRule (l r : ℕ) (T Y : ℕ) : Type 0 where
    pub yields : ℕ
    pub result : ℕ
    pub type_is : T ≡ r
    pub yields_is : Y ≡ 1
    pub label_is : at Σ l ≡ Some r
    pub row_is : Is S r (instance_type yields result)

  -- as for a resume of its label's instance, whose row is that of the binding
  pub record ResumptionRule (l : ℕ) (a b c d : Term) (T Y : ℕ) : Type 0 where
    pub row : ℕ
    pub row_second : ℕ
    pub row_third : ℕ
    pub row_fourth : ℕ
    pub yields : ℕ
    pub result : ℕ
    pub label_is : at Σ l ≡ Some row
    pub row_is : Is S row (instance_type yields result)
    pub second_is : Is S row_second (coroutine_type result Y T)
    pub third_is : Is S row_third (coroutine_type yields Y T)
    pub fourth_is : Is S row_fourth (coroutine_type 0 Y T)
    pub body : Typed S Σ Γ a result yields
    pub second : Typed S Σ Γ b row_second Y
    pub third : Typed S Σ Γ c row_third Y
    pub fourth : Typed S Σ Γ d row_fourth Y

  pub record SuspensionRule (t v : Term) (T Y : ℕ) : Type 0 where
    pub pending_value : Value v
    pub suspended : Typed S Σ Γ t T Y
    pub pending : Typed S Σ Γ v Y 1

  -- the rule of each term
  abbrev pub Rule : Term → ℕ → ℕ → Type 0
  Rule unit T Y = (T ≡ 0) × (Y ≡ 1)
  Rule (variable n) T Y = (look Γ n ≡ Some T) × (Y ≡ 1)
  Rule (abstraction x r b) T Y = AbstractionRule x r b T Y
  Rule (coroutine x r b) T Y = CoroutineRule x r b T Y
  Rule (application f a) T Y = ApplicationRule f a T Y
  Rule (yield t) T Y = YieldRule t T Y
  Rule (start i f a) T Y = StartRule i f a T Y
  Rule (resume a b c d) T Y = ResumeRule a b c d T Y
  Rule (snapshot t) T Y = SnapshotRule t T Y
  Rule (fix t) T Y = FixRule t T Y
  Rule (atom k p) T Y = (T ≡ suc (suc k)) × (Y ≡ 1) × (k < S.set.bases) × (S.set.holds k p ≡ true)
  Rule (operation o a b) T Y = OperationRule o a b T Y
  Rule (instance l r) T Y = InstanceRule l r T Y
  Rule (resumption l a b c d) T Y = ResumptionRule l a b c d T Y
  Rule (suspension t v) T Y = SuspensionRule t v T Y

  -- the rule of a term holds, for a yield type that may be read as Y
  pub record Inverse (t : Term) (T Y : ℕ) : Type 0 where
    pub least : ℕ
    pub reads : Reads S least Y
    pub rule : Rule t T least

module _ {S : Setting} {Σ : List ℕ} where
  pub inverse : {Γ : Scope} {t : Term} {T Y : ℕ} → Typed S Σ Γ t T Y → Inverse S Σ Γ t T Y
  inverse (t_any_yield y d) = let i = inverse d in record { least = i.least; reads = read_again y i.reads; rule = i.rule }
  inverse t_unit = record { least = _; reads = as_is refl; rule = (refl, refl) }
  inverse (t_variable e) = record { least = _; reads = as_is refl; rule = (e, refl) }
  inverse (t_abstraction e d) = record {
    least = _;
    reads = as_is refl;
    rule = record { argument = _; result = _; type_is = refl; yields_is = refl; row_is = e; body = d };
  }
  inverse (t_coroutine e d) = record {
    least = _;
    reads = as_is refl;
    rule = record { argument = _; yields = _; result = _; type_is = refl; yields_is = refl; row_is = e; body = d };
  }
  inverse (t_apply e f a) = record {
    least = _;
    reads = as_is refl;
    rule = record { row = _; argument = _; row_takes = inl e; first = f; second = a };
  }
  inverse (t_apply_coroutine e f a) = record {
    least = _;
    reads = as_is refl;
    rule = record { row = _; argument = _; row_takes = inr e; first = f; second = a };
  }
  inverse (t_yield d) = record {
    least = _;
    reads = as_is refl;
    rule = record { type_is = refl; offered = d };
  }
  inverse (t_start i r f a) = record {
    least = _;
    reads = as_is refl;
    rule = record { row = _; argument = _; yields = _; result = _; type_is = refl; start_is = i; row_is = r; first = f; second = a };
  }
  inverse (t_resume i r₂ r₃ r₄ a b c d) = record {
    least = _;
    reads = as_is refl;
    rule =
        record {
          row = _;
          row_second = _;
          row_third = _;
          row_fourth = _;
          yields = _;
          result = _;
          row_is = i;
          second_is = r₂;
          third_is = r₃;
          fourth_is = r₄;
          first = a;
          second = b;
          third = c;
          fourth = d;
        };
  }
  inverse (t_snapshot i d) = record {
    least = _;
    reads = as_is refl;
    rule = record { yields = _; result = _; row_is = i; copied = d };
  }
  inverse (t_fix e d) = record {
    least = _;
    reads = as_is refl;
    rule = record { row = _; yields_is = refl; row_is = e; function = d };
  }
  inverse (t_atom k h) = record { least = _; reads = as_is refl; rule = (refl, refl, k, h) }
  inverse (t_operation s a b) = record {
    least = _;
    reads = as_is refl;
    rule = record { signature = _; type_is = refl; signature_is = s; first = a; second = b };
  }
  inverse (t_instance e i) = record {
    least = _;
    reads = as_is refl;
    rule = record { yields = _; result = _; type_is = refl; yields_is = refl; label_is = e; row_is = i };
  }
  inverse (t_resumption e i r₂ r₃ r₄ a b c d) = record {
    least = _;
    reads = as_is refl;
    rule =
        record {
          row = _;
          row_second = _;
          row_third = _;
          row_fourth = _;
          yields = _;
          result = _;
          label_is = e;
          row_is = i;
          second_is = r₂;
          third_is = r₃;
          fourth_is = r₄;
          body = a;
          second = b;
          third = c;
          fourth = d;
        };
  }
  inverse (t_suspension h d v) = record {
    least = _;
    reads = as_is refl;
    rule = record { pending_value = h; suspended = d; pending = v };
  }
