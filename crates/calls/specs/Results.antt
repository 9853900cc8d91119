-- What each call answers, and the words of the image after it.
use Rattle.std.specs.Prelude.{ℕ, suc, cond, ◌||◌, List, [], length, Some, None, Ok, Err, Option, Result, nat_lt}
use Rattle.faults.specs.declared.Fault.{Fault}
use Rattle.faults.specs.declared.numbers.FaultNumber.TheVariants.{WorkShort, ImageFull}
use Rattle.faults.specs.Faults.{fault_of}
use Rattle.quantities.specs.Meaning.{Meaning}
use Rattle.calculus.specs.Terms.{Term}
use Rattle.calculus.specs.Parts.{size}
use Rattle.calculus.specs.Configurations.{Configuration, ◌∣◌}
use Rattle.calculus.specs.Views.{View, is_abstraction, is_coroutine, is_instance, is_atom, is_suspension_term, is_other, view}
use Rattle.encoding.specs.Encoding.{encode}
use Rattle.programs.specs.Reading.{Split, read_program}
use Rattle.rules.specs.declared.model.Judged.{Judged}
use Rattle.admission.specs.Admission.{admit_answer}
use Rattle.image.specs.Images.{used, image_of}
use Rattle.image.specs.Reading.{term_in}
use Rattle.image.specs.Stepping.{Stop, steps_in}
use Rattle.calls.specs.States.{Status, going, offering, status_of}
use Rattle.calls.specs.Entry.{on_length, on_spare, entered, entered_with}

-- What a call that may write the image comes to: the next state, or a fault; and the image after it.
pub record CallOutcome : Type 0 where
  pub answer : Result Status Fault
  pub image : List ℕ

-- a refusal leaves the image as it was found
abbrev pub refused : List ℕ → Fault → CallOutcome
refused image f = record { answer = Err f; image = image }

-- the image of a configuration in so many words, and its state
abbrev pub written : ℕ → Configuration → CallOutcome
written len c = record { answer = Ok (status_of c.term); image = image_of len c }

-- What a run comes to: the steps made besides.
pub record RunOutcome : Type 0 where
  pub made : ℕ
  pub answer : Result Status Fault
  pub image : List ℕ

-- the state of a term, unless a step was refused
abbrev pub unless_refused : Option Fault → Term → Result Status Fault
unless_refused None t = Ok (status_of t)
unless_refused (Some f) t = Err f

-- where a run of steps stopped, in an image of so many words; where a step was refused, the image is that after the steps made
abbrev pub stopped : ℕ → Stop → RunOutcome
stopped len s = record { made = s.made; answer = unless_refused s.fault s.last.term; image = image_of len s.last }

-- a run of at most n steps from the configuration of an image
abbrev pub run_from : Meaning → ℕ → List ℕ → Result Configuration Fault → RunOutcome
run_from Q n image (Err f) = record { made = 0; answer = Err f; image = image }
run_from Q n image (Ok c) = stopped (length image) (steps_in Q (length image) n c)

-- run with at most n steps and a spare of so many words
abbrev pub run_outcome : Meaning → ℕ → List ℕ → ℕ → RunOutcome
run_outcome Q n image spare = run_from Q n image (entered_with going image spare)

-- What show hands out: some words of the image, and the place where they stand.
pub record Part : Type 0 where
  pub place : ℕ
  pub words : List ℕ

-- the pending value of a suspension, which stands behind the suspension's word and its term; or the whole term
abbrev pub shown_of : View → Term → Part
shown_of (is_suspension_term t v) u = record { place = suc (suc (size t)); words = encode v }
shown_of (is_abstraction x r b) u = record { place = 1; words = encode u }
shown_of (is_coroutine x r b) u = record { place = 1; words = encode u }
shown_of (is_instance l r) u = record { place = 1; words = encode u }
shown_of (is_atom k p) u = record { place = 1; words = encode u }
shown_of is_other u = record { place = 1; words = encode u }

abbrev pub show_from : Result Configuration Fault → Result Part Fault
show_from (Err f) = Err f
show_from (Ok c) = Ok (shown_of (view c.term) c.term)

-- show in a state
abbrev pub show_answer : Status → List ℕ → Result Part Fault
show_answer s image = show_from (entered s image)

-- the suspended term of a suspension
abbrev pub suspended_of : View → Term → Term
suspended_of (is_suspension_term t v) u = t
suspended_of (is_abstraction x r b) u = u
suspended_of (is_coroutine x r b) u = u
suspended_of (is_instance l r) u = u
suspended_of (is_atom k p) u = u
suspended_of is_other u = u

abbrev pub take_from : List ℕ → Result Configuration Fault → CallOutcome
take_from image (Err f) = refused image f
take_from image (Ok c) = written (length image) (suspended_of (view c.term) c.term ∣ c.bindings)

-- take with a spare of so many words: the suspended term becomes the image's term
abbrev pub take_outcome : List ℕ → ℕ → CallOutcome
take_outcome image spare = take_from image (entered_with offering image spare)

-- the term of a program's words, behind the head and the rows
abbrev pub term_read : Result Split Fault → Result Term Fault
term_read (Err f) = Err f
term_read (Ok p) = Ok (term_in p.term)

-- the term of an admitted program, or why it is not admitted
abbrev pub term_if_admitted : Result Judged Fault → Result Term Fault → Result Term Fault
term_if_admitted (Err f) r = Err f
term_if_admitted (Ok j) r = r

-- go on where both work lists have 256 entries, else refuse by 1
abbrev pub on_work : {A : Type 0} → ℕ → ℕ → Result A Fault → Result A Fault
on_work s n r = cond (nat_lt s 256 || nat_lt n 256) (Err (fault_of WorkShort 0)) r

-- go on where the term has room behind the head, else refuse by 15
abbrev pub on_room : ℕ → Result Term Fault → Result Term Fault
on_room len (Err f) = Err f
on_room len (Ok t) = cond (nat_lt len (used (t ∣ []))) (Err (fault_of ImageFull 0)) (Ok t)

abbrev pub open_from : List ℕ → Result Term Fault → CallOutcome
open_from image (Err f) = refused image f
open_from image (Ok t) = written (length image) (t ∣ [])

-- the term of a program that is admitted with work lists of s and n entries
abbrev pub admitted_term : Meaning → List ℕ → ℕ → ℕ → Result Term Fault
admitted_term Q program s n = term_if_admitted (admit_answer Q program s n) (term_read (read_program Q.bases program))

-- the term that open writes into an image of so many words, with a spare of so many; or why it does not, in this order: the work, the
-- lengths, the program, the room
abbrev pub open_term : Meaning → List ℕ → ℕ → ℕ → ℕ → ℕ → Result Term Fault
open_term Q program s n len spare = on_work s n (on_length len (on_spare spare len (on_room len (admitted_term Q program s n))))

-- open: the image is then that of the program's term with no bindings
abbrev pub open_outcome : Meaning → List ℕ → ℕ → ℕ → List ℕ → ℕ → CallOutcome
open_outcome Q program s n image spare = open_from image (open_term Q program s n (length image) spare)
