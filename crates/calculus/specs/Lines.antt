-- The lines of a step: what happens at the path's last term, whatever stands around it.
use Rattle.std.specs.Prelude.{◌≡◌, ℕ, true, [], ◌∷◌, ◌++◌, length, Some}
use Rattle.quantities.specs.declared.Signature.{Signature}
use Rattle.quantities.specs.Meaning.{Meaning}
use Rattle.calculus.specs.Lists.{at, put}
use Rattle.calculus.specs.Terms.{Term, unit, abstraction, coroutine, application, yield, start, resume, snapshot, fix, atom, operation, instance, resumption, suspension, Value}
use Rattle.calculus.specs.Replacement.{replace}
use Rattle.calculus.specs.Configurations.{Binding, empty, ready, row_of, Bindings}
use Rattle.calculus.specs.Frames.{Frame, plug, Proper}

-- Line Q t μ t' μ': over the quantity set Q, with the bindings μ, the term t itself becomes t', and the bindings μ'.
pub data Line (Q : Meaning) : Term → Bindings → Term → Bindings → Type 0 where
  -- a suspension moves out one level; there is no frame of a resumption, so it does not leave one
  e_pause : (F : Frame) (t v : Term) {μ : Bindings} → Proper F → Line Q (plug F (suspension t v)) μ (suspension (plug F t) v) μ
  -- an applied abstraction or coroutine becomes its body, the name replaced
  e_apply : {x r : ℕ} {b v : Term} {μ : Bindings} → Value v → Line Q (application (abstraction x r b) v) μ (replace x v b) μ
  e_apply_coroutine : {x r : ℕ} {b v : Term} {μ : Bindings} → Value v → Line Q (application (coroutine x r b) v) μ (replace x v b) μ
  -- fix of an abstraction becomes its body, the name replaced by the fix
  e_fix : {x r : ℕ} {b : Term} {μ : Bindings} → Line Q (fix (abstraction x r b)) μ (replace x (fix (abstraction x r b)) b) μ
  -- a yield becomes a suspension of unit, the value pending
  e_yield : {v : Term} {μ : Bindings} → Value v → Line Q (yield v) μ (suspension unit v) μ
  -- a new binding is ready with the coroutine's body, the name replaced; its label is the number of bindings before
  e_start :
      {i x r : ℕ} {b v : Term} {μ : Bindings} → Value v →
      Line Q (start i (coroutine x r b) v) μ (instance (length μ) i) (μ ++ ready i (replace x v b) ∷ [])
  -- on a ready binding: a resumption with its body, and the binding becomes empty
  e_resume_ready :
      {l r i : ℕ} {t b c d : Term} {μ : Bindings} → Value b → Value c → Value d → at μ l ≡ Some (ready i t) →
      Line Q (resume (instance l r) b c d) μ (resumption l t b c d) (put μ l (empty i))
  -- on an empty binding: the fourth part is applied to unit
  e_resume_empty :
      {l r i : ℕ} {b c d : Term} {μ : Bindings} → Value b → Value c → Value d → at μ l ≡ Some (empty i) →
      Line Q (resume (instance l r) b c d) μ (application d unit) μ
  -- a suspension in a resumption: the third part is applied to the pending value, and the binding becomes ready with the suspended term
  e_capture :
      {l i : ℕ} {t v b c d : Term} {μ : Bindings} → at μ l ≡ Some (empty i) →
      Line Q (resumption l (suspension t v) b c d) μ (application c v) (put μ l (ready i t))
  -- a value in a resumption: the second part is applied to it, and the binding stays empty
  e_terminate :
      {l i : ℕ} {v b c d : Term} {μ : Bindings} → Value v → at μ l ≡ Some (empty i) → Line Q (resumption l v b c d) μ (application b v) μ
  -- a new binding, a copy of the old with its row
  e_snapshot :
      {l r : ℕ} {β : Binding} {μ : Bindings} → at μ l ≡ Some β →
      Line Q (snapshot (instance l r)) μ (instance (length μ) (row_of β)) (μ ++ β ∷ [])
  -- an operation on atoms of its signature's bases, with payloads in them, becomes the set's result
  e_operate :
      {o p q : ℕ} {s : Signature} {μ : Bindings} → Q.signature o ≡ Some s → Q.holds s.first p ≡ true →
      Q.holds s.second q ≡ true →
      Line Q (operation o (atom s.first p) (atom s.second q)) μ (atom s.result (Q.result o p q)) μ
