use Rattle.std.proofs.Common.{◌≡◌, ℕ, ◌+◌, Some, None, Option, sym, refl, ap, ◌∙◌, rules}
use Rattle.std.proofs.lemmas.Bool.{eqb-true, eqb-false}
use Rattle.words.specs.declared.kinds.Kind.{Kind}
use Rattle.words.specs.Kinds.{number_of}
use Rattle.words.specs.Kinds as kinds
use Rattle.calculus.specs.Lists.{at, put}
use Rattle.calculus.specs.Terms.{unit, application, suspension}
use Rattle.calculus.specs.Configurations.{ready, ◌∣◌}
use Rattle.calculus.specs.Frames.{plug}
use Rattle.calculus.specs.Views.{view}
use Rattle.calculus.specs.Redexes.{applied, fixed, started, resumes, copies, on_empty, operates}
use Rattle.calculus.specs.Next.{within}
use Rattle.calculus.proofs.Configured.{put_length}
use Rattle.image.specs.Reading.{kind_at}
use Rattle.steps.proofs.Locate.{locate}
use Rattle.steps.proofs.Paused.{paused_read}
use Rattle.steps.proofs.Exits.{hole, exit_pausing, exit_capturing, exit_applying, exit_yielding, exit_starting, exit_resuming, exit_copying, exit_fixing, exit_operating, exit_ending, exit_none, none_some, some_some}
use Rattle.steps.proofs.Counted.{TurnedAt, turned, counted, next_applied, next_yielded, next_started, next_resumed, next_copied, next_fixed, next_operated, next_ended, next_captured, next_paused, count_applied, count_fixed, count_resumes, count_on_empty, count_started, count_copies, count_operates}
use Rattle.steps.proofs.turn.write_line.Goals as goal

pub returns-then-is_of : goal.returns-then-is_of
returns-then-is_of g c = λ k m e q n.
    let r = c.args.redex.now in
    let L = locate g.Q.QuantitySet.meaning k.term in
    exit_capturing r.image.now k r.place L.K (TurnedAt g.Q.QuantitySet.meaning k L.K c.map.result c.args.spare.now c.write_capture.new.spare)
    c.in-Some.inner L.u L.redex (hole g.Q.QuantitySet.meaning r.image.now k r.place L m e)
    (ap kind_at (sym c.get-word.ensures) ∙ eqb-true (kind_at c.get-word.result) 13 (sym c.if-is_of.ensures))
    (paused_read r.image.now k r.place L.K c.get-word.result c.evaluated.result (Some c.in-Some.inner) c.get-word.ensures
    c.evaluated.ensures c.in-Some.ensures.value)
    (λ l t v b d f h s.
    turned c.write_capture.result c.map.result r.bindings (search rules) L.K _
    (on_empty (at k.bindings l) (λ i. application d v ∣ put k.bindings l (ready i t))) (s ∙ ap (within L.K) (next_captured g.Q.QuantitySet.meaning k.bindings l t v b d f))
    c.args.spare.now c.write_capture.new.spare (c.write_capture.ensures k L.K l t v b d f (h, q))
    (λ x y. count_on_empty k.bindings x r.bindings n (at k.bindings l)
    (λ i. application d v ∣ put k.bindings l (ready i t)) (λ i. put_length k.bindings l (ready i t)) y))
    (L.steps k.bindings)

pub returns-in-Some : goal.returns-in-Some
returns-in-Some g c = λ k m e q n.
    let r = c.args.redex.now in
    let L = locate g.Q.QuantitySet.meaning k.term in
    exit_pausing r.image.now k r.place L.K (TurnedAt g.Q.QuantitySet.meaning k L.K (Some (c.write_pause.result, r.bindings)) c.args.spare.now c.write_pause.new.spare)
    c.in-Some.inner L.u L.redex (hole g.Q.QuantitySet.meaning r.image.now k r.place L m e)
    (λ y. eqb-false (kind_at c.get-word.result) 13 (sym c.if-is_of.ensures) (ap kind_at c.get-word.ensures ∙ y))
    (paused_read r.image.now k r.place L.K c.get-word.result c.evaluated.result (Some c.in-Some.inner) c.get-word.ensures
    c.evaluated.ensures c.in-Some.ensures.value)
    (λ F t v p b h s.
    turned (Some c.write_pause.result) (Some (c.write_pause.result, r.bindings)) r.bindings refl L.K _
    (Some (suspension (plug F t) v ∣ k.bindings)) (s ∙ ap (within L.K) (next_paused g.Q.QuantitySet.meaning k.bindings F t v p))
    c.args.spare.now c.write_pause.new.spare (suspension (plug F t) v ∣ k.bindings, refl, c.write_pause.ensures k L.K F t v (h, q) b)
    (λ x y. counted (suspension (plug F t) v ∣ k.bindings) x r.bindings n y))
    (L.steps k.bindings)

pub returns-in-Application : goal.returns-in-Application
returns-in-Application g c = λ k m e q n.
    let r = c.args.redex.now in
    let L = locate g.Q.QuantitySet.meaning k.term in
    exit_applying r.image.now k r.place L.K (TurnedAt g.Q.QuantitySet.meaning k L.K c.map-in-Application.result c.args.spare.now c.write_apply.new.spare)
    L.u L.redex (hole g.Q.QuantitySet.meaning r.image.now k r.place L m e)
    (ap kind_at (sym c.get-word.ensures) ∙ c.in_ok-kind.ensures.number ∙ ap number_of c.in-Application.is)
    (paused_read r.image.now k r.place L.K c.get-word.result c.evaluated.result None c.get-word.ensures
    c.evaluated.ensures c.in_default.ensures.value)
    (λ f a v w h s.
    turned c.write_apply.result c.map-in-Application.result r.bindings (search rules) L.K _
    (applied (view f) a k.bindings) (s ∙ ap (within L.K) (next_applied g.Q.QuantitySet.meaning k.bindings f a v w))
    c.args.spare.now c.write_apply.new.spare (c.write_apply.ensures k L.K f a (h, q))
    (λ x y. count_applied k.bindings x r.bindings n a (view f) y))
    (L.steps k.bindings)

pub returns-in-Yield : goal.returns-in-Yield
returns-in-Yield g c = λ k m e q n.
    let r = c.args.redex.now in
    let L = locate g.Q.QuantitySet.meaning k.term in
    exit_yielding r.image.now k r.place L.K (TurnedAt g.Q.QuantitySet.meaning k L.K (Some (c.write_yield.result, r.bindings)) c.args.spare.now c.write_yield.new.spare)
    L.u L.redex (hole g.Q.QuantitySet.meaning r.image.now k r.place L m e)
    (ap kind_at (sym c.get-word.ensures) ∙ c.in_ok-kind.ensures.number ∙ ap number_of c.in-Yield.is)
    (paused_read r.image.now k r.place L.K c.get-word.result c.evaluated.result None c.get-word.ensures
    c.evaluated.ensures c.in_default.ensures.value)
    (λ v x h s.
    turned (Some c.write_yield.result) (Some (c.write_yield.result, r.bindings)) r.bindings refl L.K _
    (Some (suspension unit v ∣ k.bindings)) (s ∙ ap (within L.K) (next_yielded g.Q.QuantitySet.meaning k.bindings v x))
    c.args.spare.now c.write_yield.new.spare (suspension unit v ∣ k.bindings, refl, c.write_yield.ensures k L.K v (h, q))
    (λ x y. counted (suspension unit v ∣ k.bindings) x r.bindings n y))
    (L.steps k.bindings)

pub returns-in-Start : goal.returns-in-Start
returns-in-Start g c = λ k m e q n.
    let r = c.args.redex.now in
    let L = locate g.Q.QuantitySet.meaning k.term in
    exit_starting r.image.now k r.place L.K (TurnedAt g.Q.QuantitySet.meaning k L.K c.map-in-Start.result c.args.spare.now c.write_start.new.spare)
    L.u L.redex (hole g.Q.QuantitySet.meaning r.image.now k r.place L m e)
    (ap kind_at (sym c.get-word.ensures) ∙ c.in_ok-kind.ensures.number ∙ ap number_of c.in-Start.is)
    (paused_read r.image.now k r.place L.K c.get-word.result c.evaluated.result None c.get-word.ensures
    c.evaluated.ensures c.in_default.ensures.value)
    (λ i f a v w h s.
    turned c.write_start.result c.map-in-Start.result (r.bindings + 1) (search rules) L.K _
    (started i (view f) a k.bindings) (s ∙ ap (within L.K) (next_started g.Q.QuantitySet.meaning k.bindings i f a v w))
    c.args.spare.now c.write_start.new.spare (c.write_start.ensures k L.K i f a (h, q) n)
    (λ x y. count_started k.bindings x r.bindings n i (view f) a y))
    (L.steps k.bindings)

pub returns-in-Resume : goal.returns-in-Resume
returns-in-Resume g c = λ k m e q n.
    let r = c.args.redex.now in
    let L = locate g.Q.QuantitySet.meaning k.term in
    exit_resuming r.image.now k r.place L.K (TurnedAt g.Q.QuantitySet.meaning k L.K c.map-in-Resume.result c.args.spare.now c.write_resume.new.spare)
    L.u L.redex (hole g.Q.QuantitySet.meaning r.image.now k r.place L m e)
    (ap kind_at (sym c.get-word.ensures) ∙ c.in_ok-kind.ensures.number ∙ ap number_of c.in-Resume.is)
    (paused_read r.image.now k r.place L.K c.get-word.result c.evaluated.result None c.get-word.ensures
    c.evaluated.ensures c.in_default.ensures.value)
    (λ f a b d v w x y h s.
    turned c.write_resume.result c.map-in-Resume.result r.bindings (search rules) L.K _
    (resumes (view f) a b d k.bindings) (s ∙ ap (within L.K) (next_resumed g.Q.QuantitySet.meaning k.bindings f a b d v w x y))
    c.args.spare.now c.write_resume.new.spare (c.write_resume.ensures k L.K f a b d (h, q))
    (λ x y. count_resumes k.bindings x r.bindings n (view f) a b d y))
    (L.steps k.bindings)

pub returns-in-Snapshot : goal.returns-in-Snapshot
returns-in-Snapshot g c = λ k m e q n.
    let r = c.args.redex.now in
    let L = locate g.Q.QuantitySet.meaning k.term in
    exit_copying r.image.now k r.place L.K (TurnedAt g.Q.QuantitySet.meaning k L.K c.map-in-Snapshot.result c.args.spare.now c.write_copy.new.spare)
    L.u L.redex (hole g.Q.QuantitySet.meaning r.image.now k r.place L m e)
    (ap kind_at (sym c.get-word.ensures) ∙ c.in_ok-kind.ensures.number ∙ ap number_of c.in-Snapshot.is)
    (paused_read r.image.now k r.place L.K c.get-word.result c.evaluated.result None c.get-word.ensures
    c.evaluated.ensures c.in_default.ensures.value)
    (λ f v h s.
    turned c.write_copy.result c.map-in-Snapshot.result (r.bindings + 1) (search rules) L.K _
    (copies (view f) k.bindings) (s ∙ ap (within L.K) (next_copied g.Q.QuantitySet.meaning k.bindings f v))
    c.args.spare.now c.write_copy.new.spare (c.write_copy.ensures k L.K f (h, q) n)
    (λ x y. count_copies k.bindings x r.bindings n (view f) y))
    (L.steps k.bindings)

pub returns-in-Fix : goal.returns-in-Fix
returns-in-Fix g c = λ k m e q n.
    let r = c.args.redex.now in
    let L = locate g.Q.QuantitySet.meaning k.term in
    exit_fixing r.image.now k r.place L.K (TurnedAt g.Q.QuantitySet.meaning k L.K c.map-in-Fix.result c.args.spare.now c.write_fix.new.spare)
    L.u L.redex (hole g.Q.QuantitySet.meaning r.image.now k r.place L m e)
    (ap kind_at (sym c.get-word.ensures) ∙ c.in_ok-kind.ensures.number ∙ ap number_of c.in-Fix.is)
    (paused_read r.image.now k r.place L.K c.get-word.result c.evaluated.result None c.get-word.ensures
    c.evaluated.ensures c.in_default.ensures.value)
    (λ f v h s.
    turned c.write_fix.result c.map-in-Fix.result r.bindings (search rules) L.K _
    (fixed (view f) k.bindings) (s ∙ ap (within L.K) (next_fixed g.Q.QuantitySet.meaning k.bindings f v))
    c.args.spare.now c.write_fix.new.spare (c.write_fix.ensures k L.K f (h, q))
    (λ x y. count_fixed k.bindings x r.bindings n (view f) y))
    (L.steps k.bindings)

pub returns-in-Operation : goal.returns-in-Operation
returns-in-Operation g c = λ k m e q n.
    let r = c.args.redex.now in
    let L = locate g.Q.QuantitySet.meaning k.term in
    exit_operating r.image.now k r.place L.K (TurnedAt g.Q.QuantitySet.meaning k L.K c.map-in-Operation.result c.args.spare.now c.write_operation.new.spare)
    L.u L.redex (hole g.Q.QuantitySet.meaning r.image.now k r.place L m e)
    (ap kind_at (sym c.get-word.ensures) ∙ c.in_ok-kind.ensures.number ∙ ap number_of c.in-Operation.is)
    (paused_read r.image.now k r.place L.K c.get-word.result c.evaluated.result None c.get-word.ensures
    c.evaluated.ensures c.in_default.ensures.value)
    (λ o a b v w h s.
    turned c.write_operation.result c.map-in-Operation.result r.bindings (search rules) L.K _
    (operates g.Q.QuantitySet.meaning o (view a) (view b) k.bindings) (s ∙ ap (within L.K) (next_operated g.Q.QuantitySet.meaning k.bindings o a b v w))
    c.args.spare.now c.write_operation.new.spare (c.write_operation.ensures k L.K o a b (h, q))
    (λ x y. count_operates k.bindings x r.bindings n g.Q.QuantitySet.meaning o (view a) (view b) y))
    (L.steps k.bindings)

pub returns-in-Resumption : goal.returns-in-Resumption
returns-in-Resumption g c = λ k m e q n.
    let r = c.args.redex.now in
    let L = locate g.Q.QuantitySet.meaning k.term in
    exit_ending r.image.now k r.place L.K (TurnedAt g.Q.QuantitySet.meaning k L.K c.map-in-Resumption.result c.args.spare.now c.write_end.new.spare)
    L.u L.redex (hole g.Q.QuantitySet.meaning r.image.now k r.place L m e)
    (ap kind_at (sym c.get-word.ensures) ∙ c.in_ok-kind.ensures.number ∙ ap number_of c.in-Resumption.is)
    (paused_read r.image.now k r.place L.K c.get-word.result c.evaluated.result None c.get-word.ensures
    c.evaluated.ensures c.in_default.ensures.value)
    (λ l f a b d v h s.
    turned c.write_end.result c.map-in-Resumption.result r.bindings (search rules) L.K _
    (on_empty (at k.bindings l) (λ i. application a f ∣ k.bindings)) (s ∙ ap (within L.K) (next_ended g.Q.QuantitySet.meaning k.bindings l f a b d v))
    c.args.spare.now c.write_end.new.spare (c.write_end.ensures k L.K l f a b d (h, q))
    (λ x y. count_on_empty k.bindings x r.bindings n (at k.bindings l) (λ i. application a f ∣ k.bindings) (λ i. refl) y))
    (L.steps k.bindings)

-- no kind, where no line applies
module _ (o : Option Kind) (w v : ℕ) (e : o ≡ kinds.kind_at (kind_at w)) (f : w ≡ v) where
  read : (n : ℕ) → kind_at v ≡ n → o ≡ kinds.kind_at n
  read n y = e ∙ ap kinds.kind_at (ap kind_at f ∙ y)

pub returns-in_default-kind : goal.returns-in_default-kind
returns-in_default-kind g c = λ k m e q n.
    let r = c.args.redex.now in
    let L = locate g.Q.QuantitySet.meaning k.term in
    let d = c.in_default-kind in
    let is = read (Some c.in_ok-kind.kind) _ _ c.in_ok-kind.ensures.kind c.get-word.ensures in
    L.steps k.bindings
    ∙ ap (within L.K)
    (exit_none r.image.now k r.place L.K g.Q.QuantitySet.meaning L.u L.redex
    (hole g.Q.QuantitySet.meaning r.image.now k r.place L m e)
    (λ y. d.not-Application (some_some (is 4 y)))
    (λ y. d.not-Yield (some_some (is 5 y)))
    (λ y. d.not-Start (some_some (is 6 y)))
    (λ y. d.not-Resume (some_some (is 7 y)))
    (λ y. d.not-Snapshot (some_some (is 8 y)))
    (λ y. d.not-Fix (some_some (is 9 y)))
    (λ y. d.not-Operation (some_some (is 11 y)))
    (λ y. d.not-Resumption (some_some (is 13 y)))
    (paused_read r.image.now k r.place L.K c.get-word.result c.evaluated.result None c.get-word.ensures
    c.evaluated.ensures c.in_default.ensures.value)
    k.bindings)

pub returns-in_err-kind : goal.returns-in_err-kind
returns-in_err-kind g c = λ k m e q n.
    let r = c.args.redex.now in
    let L = locate g.Q.QuantitySet.meaning k.term in
    let is = read None _ _ c.in_err-kind.ensures.kind c.get-word.ensures in
    let z = L.steps k.bindings
    ∙ ap (within L.K)
    (exit_none r.image.now k r.place L.K g.Q.QuantitySet.meaning L.u L.redex
    (hole g.Q.QuantitySet.meaning r.image.now k r.place L m e)
    (λ y. none_some (is 4 y))
    (λ y. none_some (is 5 y))
    (λ y. none_some (is 6 y))
    (λ y. none_some (is 7 y))
    (λ y. none_some (is 8 y))
    (λ y. none_some (is 9 y))
    (λ y. none_some (is 11 y))
    (λ y. none_some (is 13 y))
    (paused_read r.image.now k r.place L.K c.get-word.result c.evaluated.result None c.get-word.ensures
    c.evaluated.ensures c.in_default.ensures.value)
    k.bindings) in
    search rules
