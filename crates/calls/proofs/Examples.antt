-- Whole runs of small programs, computed by the definitions of the calls.
use Rattle.std.proofs.Common.{◌≡◌, ℕ, List, [], ◌∷◌, ◌++◌, replicate, Ok, Err, refl, arith}
use Rattle.faults.specs.declared.numbers.FaultNumber.TheVariants.{ImageFull}
use Rattle.faults.specs.Faults.{fault_of}
use Rattle.quantities.specs.Counts.{counts}
use Rattle.quantities.specs.Interlocks.{interlocks}
use Rattle.calculus.specs.Next.{next}
use Rattle.calls.specs.States.{going, offering, ended}
use Rattle.calls.specs.Results.{open_outcome, run_outcome, show_answer, take_outcome}
use Rattle.calls.specs.Histories.{point, run_call, show_call, take_call, Follows, no_calls, call_first, by_run, by_show_of_offer, by_take}

abbrev zeros : ℕ → List ℕ
zeros n = replicate {A = ℕ} n 0

-- a yield of the count 5
abbrev yield_five : List ℕ
yield_five = 0xB0000804 ∷ 0x80000000 ∷ 0x88000000 ∷ 0x90000000 ∷ 0x90000001 ∷ 0x28000000 ∷ 0x50000005 ∷ []

abbrev opened_eight : List ℕ
opened_eight = 0xB8000003 ∷ 0x28000000 ∷ 0x50000005 ∷ zeros 5

abbrev offered_eight : List ℕ
offered_eight = 0xB8000004 ∷ 0x70000000 ∷ 0x00000000 ∷ 0x50000005 ∷ zeros 4

five_opens : open_outcome counts yield_five 256 256 (zeros 8) 8 ≡ record { answer = Ok going; image = opened_eight }
five_opens = refl

five_runs : run_outcome counts 1 opened_eight 8 ≡ record { made = 1; answer = Ok offering; image = offered_eight }
unfolding next
five_runs = refl

five_shows : show_answer offering offered_eight ≡ Ok (record { place = 3; words = 0x50000005 ∷ [] })
five_shows = refl

five_takes : take_outcome offered_eight 8 ≡ record { answer = Ok ended; image = 0xB8000002 ∷ zeros 7 }
five_takes = refl

-- the same calls as a history
five_history :
    Follows counts (point going opened_eight) (run_call 1 (zeros 8) ∷ show_call ∷ take_call (zeros 8) ∷ []) (point ended (0xB8000002 ∷ zeros 7))
unfolding next
five_history =
    call_first (by_run 1 (zeros 8) (omega arith)) (call_first by_show_of_offer (call_first (by_take (zeros 8)) no_calls))

-- in three words it opens, and the first step is refused
five_opens_in_three : open_outcome counts yield_five 256 256 (zeros 3) 3 ≡ record { answer = Ok going; image = 0xB8000003 ∷ 0x28000000 ∷ 0x50000005 ∷ [] }
five_opens_in_three = refl

five_is_full :
    run_outcome counts 1 (0xB8000003 ∷ 0x28000000 ∷ 0x50000005 ∷ []) 3
    ≡ record { made = 0; answer = Err (fault_of ImageFull 1); image = 0xB8000003 ∷ 0x28000000 ∷ 0x50000005 ∷ [] }
unfolding next
five_is_full = refl

-- a resume of a coroutine that yields 7, with handlers that give unit; the rows 4 to 7 are coroutine (0, 2, 0), instance (2, 0),
-- coroutine (0, 1, 0) and coroutine (2, 1, 0)
abbrev resuming : List ℕ
resuming =
    0xB0003008 ∷ 0x80000000 ∷ 0x88000000 ∷ 0x90000000 ∷ 0x90000001 ∷ 0xA0000400 ∷ 0xA8000002 ∷ 0xA0000200 ∷ 0xA0000202
    ∷ 0x38000000 ∷ 0x30005000 ∷ 0x18004000 ∷ 0x28000000 ∷ 0x50000007 ∷ 0x00000000
    ∷ 0x18006000 ∷ 0x00000000 ∷ 0x18007000 ∷ 0x00000000 ∷ 0x18006000 ∷ 0x00000000 ∷ []

abbrev handlers : List ℕ
handlers = 0x18006000 ∷ 0x00000000 ∷ 0x18007000 ∷ 0x00000000 ∷ 0x18006000 ∷ 0x00000000 ∷ []

-- its images in 13 words: opened, and after each step
abbrev image_opened : List ℕ
image_opened = 0xB800000D ∷ 0x38000000 ∷ 0x30005000 ∷ 0x18004000 ∷ 0x28000000 ∷ 0x50000007 ∷ 0x00000000 ∷ handlers

abbrev image_started : List ℕ
image_started = 0xB800800C ∷ 0x38000000 ∷ 0x60005000 ∷ (handlers ++ (0x78005001 ∷ 0x28000000 ∷ 0x50000007 ∷ zeros 1))

abbrev image_resumed : List ℕ
image_resumed = 0xB800800B ∷ 0x68000000 ∷ 0x28000000 ∷ 0x50000007 ∷ (handlers ++ (0x78005000 ∷ zeros 2))

abbrev image_yielded : List ℕ
image_yielded = 0xB800800C ∷ 0x68000000 ∷ 0x70000000 ∷ 0x00000000 ∷ 0x50000007 ∷ (handlers ++ (0x78005000 ∷ zeros 1))

abbrev image_captured : List ℕ
image_captured = 0xB8008007 ∷ 0x20000000 ∷ 0x18007000 ∷ 0x00000000 ∷ 0x50000007 ∷ 0x78005001 ∷ 0x00000000 ∷ zeros 6

abbrev image_ended : List ℕ
image_ended = 0xB8008004 ∷ 0x00000000 ∷ 0x78005001 ∷ 0x00000000 ∷ zeros 9

resuming_opens : open_outcome counts resuming 256 256 (zeros 13) 13 ≡ record { answer = Ok going; image = image_opened }
resuming_opens = refl

resuming_starts : run_outcome counts 1 image_opened 13 ≡ record { made = 1; answer = Ok going; image = image_started }
unfolding next
resuming_starts = refl

resuming_resumes : run_outcome counts 1 image_started 13 ≡ record { made = 1; answer = Ok going; image = image_resumed }
unfolding next
resuming_resumes = refl

resuming_yields : run_outcome counts 1 image_resumed 13 ≡ record { made = 1; answer = Ok going; image = image_yielded }
unfolding next
resuming_yields = refl

resuming_captures : run_outcome counts 1 image_yielded 13 ≡ record { made = 1; answer = Ok going; image = image_captured }
unfolding next
resuming_captures = refl

resuming_ends : run_outcome counts 1 image_captured 13 ≡ record { made = 1; answer = Ok ended; image = image_ended }
unfolding next
resuming_ends = refl

-- all of it in one run
resuming_whole : run_outcome counts 65535 image_opened 13 ≡ record { made = 5; answer = Ok ended; image = image_ended }
unfolding next
resuming_whole = refl

-- 65,535 and 1 add to 0, in one step
counts_wrap :
    run_outcome counts 65535 (0xB8000004 ∷ 0x58000000 ∷ 0x5000FFFF ∷ 0x50000001 ∷ []) 4
    ≡ record { made = 1; answer = Ok ended; image = 0xB8000002 ∷ 0x50000000 ∷ zeros 2 }
unfolding next
counts_wrap = refl

-- the interlock of 2 and 0 is 1
interlock_holds :
    run_outcome interlocks 1 (0xB8000004 ∷ 0x58000001 ∷ 0x50000002 ∷ 0x50000000 ∷ []) 4
    ≡ record { made = 1; answer = Ok ended; image = 0xB8000002 ∷ 0x50000001 ∷ zeros 2 }
unfolding next
interlock_holds = refl
