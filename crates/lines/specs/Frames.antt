-- The words around the hole of a frame.
use Rattle.std.specs.Prelude.{ℕ, List, [], ◌∷◌, ◌++◌}
use Rattle.calculus.specs.Frames.{Frame, application_left, application_right, yield_frame, start_left, start_right, resume_first, resume_second, resume_third, resume_fourth, snapshot_frame, fix_frame, operation_left, operation_right}
use Rattle.layout.specs.declared.Word.TheVariants as W
use Rattle.layout.specs.Layout.{word_of}
use Rattle.encoding.specs.Encoding.{encode}

-- the words before the hole: the first word of the frame's term, and the parts left of the hole
abbrev pub before_hole : Frame → List ℕ
before_hole (application_left a) = word_of W.Application ∷ []
before_hole (application_right f) = word_of W.Application ∷ encode f
before_hole yield_frame = word_of W.Yield ∷ []
before_hole (start_left i a) = word_of (W.Start i) ∷ []
before_hole (start_right i f) = word_of (W.Start i) ∷ encode f
before_hole (resume_first b c d) = word_of W.Resume ∷ []
before_hole (resume_second a c d) = word_of W.Resume ∷ encode a
before_hole (resume_third a b d) = word_of W.Resume ∷ (encode a ++ encode b)
before_hole (resume_fourth a b c) = word_of W.Resume ∷ (encode a ++ (encode b ++ encode c))
before_hole snapshot_frame = word_of W.Snapshot ∷ []
before_hole fix_frame = word_of W.Fix ∷ []
before_hole (operation_left o b) = word_of (W.Operation o) ∷ []
before_hole (operation_right o a) = word_of (W.Operation o) ∷ encode a

-- the words behind the hole: the parts right of it
abbrev pub behind_hole : Frame → List ℕ
behind_hole (application_left a) = encode a
behind_hole (application_right f) = []
behind_hole yield_frame = []
behind_hole (start_left i a) = encode a
behind_hole (start_right i f) = []
behind_hole (resume_first b c d) = encode b ++ (encode c ++ encode d)
behind_hole (resume_second a c d) = encode c ++ encode d
behind_hole (resume_third a b d) = encode d
behind_hole (resume_fourth a b c) = []
behind_hole snapshot_frame = []
behind_hole fix_frame = []
behind_hole (operation_left o b) = encode b
behind_hole (operation_right o a) = []
