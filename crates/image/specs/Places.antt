-- Where terms and bindings stand among the words of an image.
use Rattle.std.specs.Prelude.{◌≡◌, ℕ, suc, ◌+◌, ◌-◌, List, ◌++◌, length, drop, replicate}
use Rattle.std.specs.List.{between}
use Rattle.calculus.specs.Lists.{put}
use Rattle.calculus.specs.Terms.{Term}
use Rattle.calculus.specs.Parts.{size}
use Rattle.calculus.specs.Configurations.{Binding, empty, ready, Configuration, Formed}
use Rattle.encoding.specs.Encoding.{encode, Fits}
use Rattle.image.specs.Images.{binding_words, bindings_words, used, BindingFits}

-- the term t stands at place i, before the words `rest`
pub record At (t : Term) (rest : List ℕ) (i : ℕ) (ws : List ℕ) : Type 0 where
  pub fits : Fits t
  pub words : drop i ws ≡ encode t ++ rest

-- it reaches up to place e
pub record Passed (t : Term) (rest : List ℕ) (i e : ℕ) (ws : List ℕ) : Type 0 where
  pub ends : e ≡ i + size t
  pub words : between i e ws ≡ encode t
  pub behind : drop e ws ≡ rest

-- the rules of a term among n bindings: its fields fit, its labels are below n, and the parts that have to be values are
abbrev pub Right : ℕ → Term → Type 0
Right n t = Fits t × Formed n t

-- the same of a binding
abbrev pub BodyFormed : ℕ → Binding → Type 0
BodyFormed n (empty r) = Unit {0}
BodyFormed n (ready r t) = Formed n t

abbrev pub RightBinding : ℕ → Binding → Type 0
RightBinding n β = BindingFits β × BodyFormed n β

-- the binding β of the label l stands at place q of the image of c
pub record Bound (image : List ℕ) (c : Configuration) (l : ℕ) (β : Binding) (q : ℕ) : Type 0 where
  pub ahead : List ℕ
  pub later : List ℕ
  pub right : RightBinding (length c.bindings) β
  pub place : q ≡ suc (size c.term + length ahead)
  pub whole : bindings_words c.bindings ≡ ahead ++ (binding_words β ++ later)
  pub puts : (γ : Binding) → bindings_words (put c.bindings l γ) ≡ ahead ++ (binding_words γ ++ later)
  pub here : drop q image ≡ binding_words β ++ (later ++ replicate (length image - used c) 0)
