-- The part of a typed term is typed, and another of its type can take its place.
use Rattle.std.proofs.Common.{◌≡◌, ℕ, List, [], sym, subst, inl, inr}
use Rattle.calculus.specs.Terms.{Term, application}
use Rattle.calculus.specs.Rows.{Setting}
use Rattle.calculus.specs.Typing.{Scope, Reads, as_is, raised, Typed, t_any_yield, t_apply, t_apply_coroutine, t_yield, t_start, t_resume, t_snapshot, t_fix, t_operation}
use Rattle.calculus.specs.Frames.{Frame, application_left, application_right, yield_frame, start_left, start_right, resume_first, resume_second, resume_third, resume_fourth, snapshot_frame, fix_frame, operation_left, operation_right, plug}
use Rattle.calculus.proofs.Weakening.{Longer, weaken, wider_refl}
use Rattle.calculus.proofs.Inversion.{Takes, inverse}

module _ {S : Setting} {Σ : List ℕ} {Γ : Scope} where
  pub retype : {t : Term} {T U Y : ℕ} → T ≡ U → Typed S Σ Γ t T Y → Typed S Σ Γ t U Y
  retype {t} {T} {U} {Y} e d = subst (λ V. Typed S Σ Γ t V Y) e d

  pub reyield : {t : Term} {T W Y : ℕ} → W ≡ Y → Typed S Σ Γ t T W → Typed S Σ Γ t T Y
  reyield {t} {T} {W} {Y} e d = subst (λ V. Typed S Σ Γ t T V) e d

  pub raise : {t : Term} {T W Y : ℕ} → Reads S W Y → Typed S Σ Γ t T W → Typed S Σ Γ t T Y
  raise (as_is e) d = reyield e d
  raise (raised e y) d = t_any_yield y (reyield e d)

  pub takes : {f a : Term} {r A B Y : ℕ} → Takes S r A B Y → Typed S Σ Γ f r Y → Typed S Σ Γ a A Y → Typed S Σ Γ (application f a) B Y
  takes (inl e) f a = t_apply e f a
  takes (inr e) f a = t_apply_coroutine e f a

pub record Held (S : Setting) (Σ : List ℕ) (F : Frame) (t : Term) (T Y : ℕ) : Type 0 where
  pub type : ℕ
  pub yields : ℕ
  pub reads : Reads S yields Y
  pub typed : Typed S Σ [] t type yields
  pub back : {Σ' : List ℕ} {u : Term} → Longer Σ Σ' → Typed S Σ' [] u type yields → Typed S Σ' [] (plug F u) T Y

module _ {S : Setting} {Σ : List ℕ} where
  pub with_more_labels : {Σ' : List ℕ} {t : Term} {T Y : ℕ} → Longer Σ Σ' → Typed S Σ [] t T Y → Typed S Σ' [] t T Y
  with_more_labels l d = weaken l wider_refl d

  pub held : (F : Frame) {t : Term} {T Y : ℕ} → Typed S Σ [] (plug F t) T Y → Held S Σ F t T Y
  held (application_left a) d =
      let i = inverse d in let u = i.rule in
      record {
        type = _;
        yields = _;
        reads = i.reads;
        typed = u.first;
        back = λ l e. raise i.reads (takes u.row_takes e (with_more_labels l u.second));
      }
  held (application_right f) d =
      let i = inverse d in let u = i.rule in
      record {
        type = _;
        yields = _;
        reads = i.reads;
        typed = u.second;
        back = λ l e. raise i.reads (takes u.row_takes (with_more_labels l u.first) e);
      }
  held yield_frame d =
      let i = inverse d in let u = i.rule in
      record {
        type = _;
        yields = _;
        reads = i.reads;
        typed = u.offered;
        back = λ l e. raise i.reads (retype (sym u.type_is) (t_yield e));
      }
  held (start_left j a) d =
      let i = inverse d in let u = i.rule in
      record {
        type = _;
        yields = _;
        reads = i.reads;
        typed = u.first;
        back = λ l e. raise i.reads (retype (sym u.type_is) (t_start u.start_is u.row_is e (with_more_labels l u.second)));
      }
  held (start_right j f) d =
      let i = inverse d in let u = i.rule in
      record {
        type = _;
        yields = _;
        reads = i.reads;
        typed = u.second;
        back = λ l e. raise i.reads (retype (sym u.type_is) (t_start u.start_is u.row_is (with_more_labels l u.first) e));
      }
  held (resume_first b c d) k =
      let i = inverse k in let u = i.rule in
      record {
        type = _;
        yields = _;
        reads = i.reads;
        typed = u.first;
        back =
            λ l e. raise i.reads (t_resume u.row_is u.second_is u.third_is u.fourth_is e (with_more_labels l u.second)
            (with_more_labels l u.third) (with_more_labels l u.fourth));
      }
  held (resume_second a c d) k =
      let i = inverse k in let u = i.rule in
      record {
        type = _;
        yields = _;
        reads = i.reads;
        typed = u.second;
        back =
            λ l e. raise i.reads (t_resume u.row_is u.second_is u.third_is u.fourth_is (with_more_labels l u.first) e
            (with_more_labels l u.third) (with_more_labels l u.fourth));
      }
  held (resume_third a b d) k =
      let i = inverse k in let u = i.rule in
      record {
        type = _;
        yields = _;
        reads = i.reads;
        typed = u.third;
        back =
            λ l e. raise i.reads (t_resume u.row_is u.second_is u.third_is u.fourth_is (with_more_labels l u.first)
            (with_more_labels l u.second) e (with_more_labels l u.fourth));
      }
  held (resume_fourth a b c) k =
      let i = inverse k in let u = i.rule in
      record {
        type = _;
        yields = _;
        reads = i.reads;
        typed = u.fourth;
        back =
            λ l e. raise i.reads (t_resume u.row_is u.second_is u.third_is u.fourth_is (with_more_labels l u.first)
            (with_more_labels l u.second) (with_more_labels l u.third) e);
      }
  held snapshot_frame d =
      let i = inverse d in let u = i.rule in
      record { type = _; yields = _; reads = i.reads; typed = u.copied; back = λ l e. raise i.reads (t_snapshot u.row_is e) }
  held fix_frame d =
      let i = inverse d in let u = i.rule in
      record {
        type = _;
        yields = _;
        reads = i.reads;
        typed = reyield (sym u.yields_is) u.function;
        back = λ l e. raise i.reads (reyield (sym u.yields_is) (t_fix u.row_is (reyield u.yields_is e)));
      }
  held (operation_left o b) d =
      let i = inverse d in let u = i.rule in
      record {
        type = _;
        yields = _;
        reads = i.reads;
        typed = u.first;
        back = λ l e. raise i.reads (retype (sym u.type_is) (t_operation u.signature_is e (with_more_labels l u.second)));
      }
  held (operation_right o a) d =
      let i = inverse d in let u = i.rule in
      record {
        type = _;
        yields = _;
        reads = i.reads;
        typed = u.second;
        back = λ l e. raise i.reads (retype (sym u.type_is) (t_operation u.signature_is (with_more_labels l u.first) e));
      }
