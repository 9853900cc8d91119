use Rattle.std.proofs.Common.{◌≡◌, [], ◌∷◌, Some, None, ap, ◌∙◌, rules}
use Rattle.calculus.specs.Terms.{atom, operation}
use Rattle.calculus.specs.Configurations.{◌∣◌}
use Rattle.calculus.specs.Views.{view}
use Rattle.calculus.specs.Redexes.{operates}
use Rattle.writing.proofs.Building.{◌▸◌, rewritten}
use Rattle.lines.specs.Lines.{Hole, Lined}
use Rattle.lines.proofs.Sorts.{viewed}
use Rattle.lines.proofs.Fields.{is_kind, no_kind}
use Rattle.lines.proofs.Operated.{by_atom, by_atoms, no_first, no_second, first_kind, second_kind, operation_words, operands_read}
use Rattle.lines.proofs.redex.Redex.write_operation.Goals as goal

pub returns-then-not-is_of : goal.returns-then-not-is_of
returns-then-not-is_of g c = λ k K o a b (h, q).
    let r = c.args.self.now in
    no_first g.Q.QuantitySet.meaning o k.bindings a (viewed a) b
    (no_kind c.if-not-is_of.ensures c.get-left.ensures (first_kind r.image.now k K r.place r.used o a b h q))

pub returns-then-not-is_of-2 : goal.returns-then-not-is_of-2
returns-then-not-is_of-2 g c = λ k K o a b (h, q).
    let r = c.args.self.now in
    by_atom (λ x. Hole r.image.now k r.place (operation o x b) K → operates g.Q.QuantitySet.meaning o (view x) (view b) k.bindings ≡ None) a (viewed a)
    (is_kind c.if-not-is_of.ensures c.get-left.ensures (first_kind r.image.now k K r.place r.used o a b h q))
    (λ j v h.
    no_second g.Q.QuantitySet.meaning o k.bindings j v b (viewed b)
    (no_kind c.if-not-is_of-2.ensures c.get-right.ensures
    (second_kind r.image.now k K r.place r.used o (atom j v) b h q c.past-middle.result c.past-middle.ensures.value)))
    h

pub returns-in_err-atom_base : goal.returns-in_err-atom_base
returns-in_err-atom_base g c = λ k K o a b (h, q).
    let r = c.args.self.now in
    let z = by_atoms
    (λ x y. Hole r.image.now k r.place (operation o x y) K → operates g.Q.QuantitySet.meaning o (view x) (view y) k.bindings ≡ None)
    a b (viewed a) (viewed b)
    (is_kind c.if-not-is_of.ensures c.get-left.ensures (first_kind r.image.now k K r.place r.used o a b h q))
    (is_kind c.if-not-is_of-2.ensures c.get-right.ensures
    (second_kind r.image.now k K r.place r.used o a b h q c.past-middle.result c.past-middle.ensures.value))
    (λ j v i s h.
    operands_read r.image.now k K r.place r.used o j v i s h q c.past-middle.result c.past-middle.ensures.value g.Q.QuantitySet.meaning
    k.bindings c.operation-number.result c.payload.result c.base.result c.payload-2.result c.base-2.result c.get.result
    c.get-left.result c.get-right.result c.get.ensures c.get-left.ensures c.get-right.ensures c.operation-number.ensures
    c.payload.ensures c.base.ensures c.payload-2.ensures c.base-2.ensures
    ∙ c.in_err-atom_base.ensures.value k.bindings)
    h in
    search rules

pub returns : goal.returns
returns g c = λ k K o a b (h, q).
    let r = c.args.self.now in
    by_atoms
    (λ x y. Hole r.image.now k r.place (operation o x y) K →
    Lined (Some c.place.result) c.args.spare.now _ K (operates g.Q.QuantitySet.meaning o (view x) (view y) k.bindings))
    a b (viewed a) (viewed b)
    (is_kind c.if-not-is_of.ensures c.get-left.ensures (first_kind r.image.now k K r.place r.used o a b h q))
    (is_kind c.if-not-is_of-2.ensures c.get-right.ensures
    (second_kind r.image.now k K r.place r.used o a b h q c.past-middle.result c.past-middle.ensures.value))
    (λ j v i s h. (
      atom c.in_ok-atom_base.atom_base c.in_ok-atom_base.atom_payload ∣ k.bindings,
      operands_read r.image.now k K r.place r.used o j v i s h q c.past-middle.result c.past-middle.ensures.value g.Q.QuantitySet.meaning
          k.bindings c.operation-number.result c.payload.result c.base.result c.payload-2.result c.base-2.result c.get.result
          c.get-left.result c.get-right.result c.get.ensures c.get-left.ensures c.get-right.ensures c.operation-number.ensures
          c.payload.ensures c.base.ensures c.payload-2.ensures c.base-2.ensures
          ∙ c.in_ok-atom_base.ensures.value k.bindings,
      let w = rewritten
          (operation_words r.image.now k K r.place r.used o (atom j v) (atom i s) h q c.past-middle.result
          c.past-middle.ensures.value c.past-stop.result c.past-stop.ensures.value c.in_ok-atom_base.atom_base c.in_ok-atom_base.atom_payload)
          (c.copy.ensures.all ▸ (rewritten (ap (λ w. w ∷ []) c.atom_word.ensures) c.word.ensures.all ▸ c.copy-2.ensures.all)) in
          search rules,
    ))
    h
