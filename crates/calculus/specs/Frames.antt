-- Frames: a term with a hole at an evaluated part.
use Rattle.std.specs.Prelude.{ℕ}
use Rattle.calculus.specs.Terms.{Term, application, yield, start, resume, snapshot, fix, operation, Value}

-- A frame is named after its term and the place of its hole. A resumption is no frame: what is suspended in it does not leave it.
pub data Frame : Type 0 where
  application_left : Term → Frame
  application_right : Term → Frame
  yield_frame : Frame
  start_left : ℕ → Term → Frame
  start_right : ℕ → Term → Frame
  resume_first : Term → Term → Term → Frame
  resume_second : Term → Term → Term → Frame
  resume_third : Term → Term → Term → Frame
  resume_fourth : Term → Term → Term → Frame
  snapshot_frame : Frame
  fix_frame : Frame
  operation_left : ℕ → Term → Frame
  operation_right : ℕ → Term → Frame

-- the frame with a term in its hole
abbrev pub plug : Frame → Term → Term
plug (application_left a) t = application t a
plug (application_right f) t = application f t
plug yield_frame t = yield t
plug (start_left i a) t = start i t a
plug (start_right i f) t = start i f t
plug (resume_first b c d) t = resume t b c d
plug (resume_second a c d) t = resume a t c d
plug (resume_third a b d) t = resume a b t d
plug (resume_fourth a b c) t = resume a b c t
plug snapshot_frame t = snapshot t
plug fix_frame t = fix t
plug (operation_left o b) t = operation o t b
plug (operation_right o a) t = operation o a t

-- parts are evaluated from left to right: those left of the hole are values
abbrev pub Proper : Frame → Type 0
Proper (application_left a) = Unit {0}
Proper (application_right f) = Value f
Proper yield_frame = Unit {0}
Proper (start_left i a) = Unit {0}
Proper (start_right i f) = Value f
Proper (resume_first b c d) = Unit {0}
Proper (resume_second a c d) = Value a
Proper (resume_third a b d) = Value a × Value b
Proper (resume_fourth a b c) = Value a × Value b × Value c
Proper snapshot_frame = Unit {0}
Proper fix_frame = Unit {0}
Proper (operation_left o b) = Unit {0}
Proper (operation_right o a) = Value a
