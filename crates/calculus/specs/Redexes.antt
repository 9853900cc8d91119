-- What each line but pause gives at a term, if it applies.
use Rattle.std.specs.Prelude.{ℕ, cond, ◌&&◌, [], ◌∷◌, ◌++◌, length, Some, None, Option, ◌==◌}
use Rattle.quantities.specs.declared.Signature.{Signature}
use Rattle.quantities.specs.Meaning.{Meaning}
use Rattle.calculus.specs.Lists.{at, put}
use Rattle.calculus.specs.Terms.{Term, unit, abstraction, application, fix, atom, instance, resumption}
use Rattle.calculus.specs.Replacement.{replace}
use Rattle.calculus.specs.Configurations.{Binding, empty, ready, row_of, Bindings, Configuration, ◌∣◌}
use Rattle.calculus.specs.Views.{View, is_abstraction, is_coroutine, is_instance, is_atom, is_suspension_term, is_other}

-- an abstraction or a coroutine is applied to a value
abbrev pub applied : View → Term → Bindings → Option Configuration
applied (is_abstraction x r b) v μ = Some (replace x v b ∣ μ)
applied (is_coroutine x r b) v μ = Some (replace x v b ∣ μ)
applied (is_instance l r) v μ = None
applied (is_atom k p) v μ = None
applied (is_suspension_term t w) v μ = None
applied is_other v μ = None

-- the fix of an abstraction
abbrev pub fixed : View → Bindings → Option Configuration
fixed (is_abstraction x r b) μ = Some (replace x (fix (abstraction x r b)) b ∣ μ)
fixed (is_coroutine x r b) μ = None
fixed (is_instance l r) μ = None
fixed (is_atom k p) μ = None
fixed (is_suspension_term t w) μ = None
fixed is_other μ = None

-- a coroutine is started on a value, by a start of row i
abbrev pub started : ℕ → View → Term → Bindings → Option Configuration
started i (is_abstraction x r b) v μ = None
started i (is_coroutine x r b) v μ = Some (instance (length μ) i ∣ (μ ++ ready i (replace x v b) ∷ []))
started i (is_instance l r) v μ = None
started i (is_atom k p) v μ = None
started i (is_suspension_term t w) v μ = None
started i is_other v μ = None

-- the instance with label l is resumed; the binding of the label decides
abbrev pub resumed : ℕ → Option Binding → Term → Term → Term → Bindings → Option Configuration
resumed l None b c d μ = None
resumed l (Some (empty i)) b c d μ = Some (application d unit ∣ μ)
resumed l (Some (ready i t)) b c d μ = Some (resumption l t b c d ∣ put μ l (empty i))

abbrev pub resumes : View → Term → Term → Term → Bindings → Option Configuration
resumes (is_abstraction x r t) b c d μ = None
resumes (is_coroutine x r t) b c d μ = None
resumes (is_instance l r) b c d μ = resumed l (at μ l) b c d μ
resumes (is_atom k p) b c d μ = None
resumes (is_suspension_term t w) b c d μ = None
resumes is_other b c d μ = None

-- the binding of an instance is copied
abbrev pub copied : Option Binding → Bindings → Option Configuration
copied None μ = None
copied (Some β) μ = Some (instance (length μ) (row_of β) ∣ (μ ++ β ∷ []))

abbrev pub copies : View → Bindings → Option Configuration
copies (is_abstraction x r t) μ = None
copies (is_coroutine x r t) μ = None
copies (is_instance l r) μ = copied (at μ l) μ
copies (is_atom k p) μ = None
copies (is_suspension_term t w) μ = None
copies is_other μ = None

-- what a resumption comes to when its body is a value or a suspension, if its binding is empty
abbrev pub on_empty : Option Binding → (ℕ → Configuration) → Option Configuration
on_empty None f = None
on_empty (Some (empty i)) f = Some (f i)
on_empty (Some (ready i t)) f = None

-- a suspension in a resumption is captured; any other body makes a step
abbrev pub captured : ℕ → View → Term → Bindings → Option Configuration → Option Configuration
captured l (is_abstraction x r t) c μ n = n
captured l (is_coroutine x r t) c μ n = n
captured l (is_instance k r) c μ n = n
captured l (is_atom k p) c μ n = n
captured l (is_suspension_term t v) c μ n = on_empty (at μ l) (λ i. application c v ∣ put μ l (ready i t))
captured l is_other c μ n = n

-- an operation on two atoms: payload p of base j, payload q of base k
abbrev pub operated : Meaning → ℕ → ℕ → ℕ → ℕ → ℕ → Option Signature → Bindings → Option Configuration
operated Q o p j q k None μ = None
operated Q o p j q k (Some s) μ =
    cond (j == s.first && k == s.second && Q.holds j p && Q.holds k q) (Some (atom s.result (Q.result o p q) ∣ μ)) None

abbrev pub operates_second : Meaning → ℕ → ℕ → ℕ → View → Bindings → Option Configuration
operates_second Q o p j (is_abstraction x r t) μ = None
operates_second Q o p j (is_coroutine x r t) μ = None
operates_second Q o p j (is_instance l r) μ = None
operates_second Q o p j (is_atom k q) μ = operated Q o p j q k (Q.signature o) μ
operates_second Q o p j (is_suspension_term t w) μ = None
operates_second Q o p j is_other μ = None

abbrev pub operates : Meaning → ℕ → View → View → Bindings → Option Configuration
operates Q o (is_abstraction x r t) w μ = None
operates Q o (is_coroutine x r t) w μ = None
operates Q o (is_instance l r) w μ = None
operates Q o (is_atom k p) w μ = operates_second Q o p k w μ
operates Q o (is_suspension_term t v) w μ = None
operates Q o is_other w μ = None
