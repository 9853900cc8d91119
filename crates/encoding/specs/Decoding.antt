-- The terms that words stand for, read from the end of the words: each word takes its parts from the terms behind it.
use Rattle.std.specs.Prelude.{ℕ, List, [], ◌∷◌, drop, Some, None, Option, slice_index_or}
use Rattle.calculus.specs.Terms.{Term, unit, variable, abstraction, coroutine, application, yield, start, resume, snapshot, fix, atom, operation, instance, resumption, suspension}
use Rattle.layout.specs.declared.Word.{Word}
use Rattle.layout.specs.declared.Word.TheVariants as W
use Rattle.layout.specs.Layout.{read_word}
use Rattle.encoding.specs.Scanning.{arity_of}

-- the term with a first word and the first of some terms for its parts; unit if the word is none of a term
abbrev pub node : Word → List Term → Term
node W.Unit ts = unit
node (W.Variable name) ts = variable name
node (W.Abstraction name row) ts = abstraction name row (slice_index_or ts 0 unit)
node (W.Coroutine name row) ts = coroutine name row (slice_index_or ts 0 unit)
node W.Application ts = application (slice_index_or ts 0 unit) (slice_index_or ts 1 unit)
node W.Yield ts = yield (slice_index_or ts 0 unit)
node (W.Start row) ts = start row (slice_index_or ts 0 unit) (slice_index_or ts 1 unit)
node W.Resume ts = resume (slice_index_or ts 0 unit) (slice_index_or ts 1 unit) (slice_index_or ts 2 unit) (slice_index_or ts 3 unit)
node W.Snapshot ts = snapshot (slice_index_or ts 0 unit)
node W.Fix ts = fix (slice_index_or ts 0 unit)
node (W.Atom base payload) ts = atom base payload
node (W.Operation number) ts = operation number (slice_index_or ts 0 unit) (slice_index_or ts 1 unit)
node (W.Instance label row) ts = instance label row
node (W.Resumption label) ts = resumption label (slice_index_or ts 0 unit) (slice_index_or ts 1 unit) (slice_index_or ts 2 unit) (slice_index_or ts 3 unit)
node W.Suspension ts = suspension (slice_index_or ts 0 unit) (slice_index_or ts 1 unit)
node (W.Binding ready row) ts = unit
node W.UnitType ts = unit
node W.BottomType ts = unit
node (W.BaseType base) ts = unit
node (W.FunctionType argument result) ts = unit
node (W.CoroutineType argument yields result) ts = unit
node (W.InstanceType yields result) ts = unit
node (W.ProgramHead rows term_words) ts = unit
node (W.ImageHead used bindings) ts = unit

-- the same, if a word was read
abbrev pub node_of : Option Word → List Term → Term
node_of None ts = unit
node_of (Some x) ts = node x ts

-- the terms that stand one after another in words; where some words are none of a term, the terms before them are those that stand there
abbrev pub terms_in : List ℕ → List Term
terms_in [] = []
terms_in (w ∷ ws) = let ts = terms_in ws in node_of (read_word w) ts ∷ drop (arity_of w) ts
