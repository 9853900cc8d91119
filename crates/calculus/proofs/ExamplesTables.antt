-- The type tables of the examples.
use Rattle.std.proofs.Common.{ℕ, List, [], ◌∷◌, refl}
use Rattle.quantities.specs.Meaning.{Meaning}
use Rattle.quantities.specs.Counts.{counts, counts_holds, counts_signature, counts_result}
use Rattle.quantities.specs.Interlocks.{interlocks}
use Rattle.quantities.specs.CountsLaw.{counts_lawful}
use Rattle.calculus.specs.Rows.{Row, unit_type, bottom_type, base_type, function_type, coroutine_type, instance_type, Setting, WellFormed}
use Rattle.calculus.proofs.Tables.{well_formed}

-- The rows after the bases, by name. An arrow goes from argument to result; a wave from argument to yield type to result,
-- and for an instance from yield type to result. The handlers of_count, of_truth and of_unit yield functions of Unit and give
-- functions of counts; the silent ones do not yield, the short ones give Unit. Those with to_ are functions from Unit.
abbrev pub unit→unit : ℕ
unit→unit = 4

abbrev pub unit→count : ℕ
unit→count = 5

abbrev pub count→count : ℕ
count→count = 6

abbrev pub unit⇝count⇝unit : ℕ
unit⇝count⇝unit = 7

abbrev pub unit⇝⊥⇝unit : ℕ
unit⇝⊥⇝unit = 8

abbrev pub unit⇝truth⇝unit : ℕ
unit⇝truth⇝unit = 9

abbrev pub unit⇝truth⇝count : ℕ
unit⇝truth⇝count = 10

abbrev pub count⇝count⇝unit : ℕ
count⇝count⇝unit = 11

abbrev pub unit⇝⊥⇝count : ℕ
unit⇝⊥⇝count = 12

abbrev pub count⇝⊥⇝count : ℕ
count⇝⊥⇝count = 13

abbrev pub count⇝unit : ℕ
count⇝unit = 14

abbrev pub truth⇝unit : ℕ
truth⇝unit = 15

abbrev pub count⇝count : ℕ
count⇝count = 16

abbrev pub truth⇝count : ℕ
truth⇝count = 17

abbrev pub of_count : ℕ
of_count = 18

abbrev pub of_truth : ℕ
of_truth = 19

abbrev pub of_unit : ℕ
of_unit = 20

abbrev pub silent_of_count : ℕ
silent_of_count = 21

abbrev pub silent_of_truth : ℕ
silent_of_truth = 22

abbrev pub silent_of_unit : ℕ
silent_of_unit = 23

abbrev pub short_of_count : ℕ
short_of_count = 24

abbrev pub short_of_truth : ℕ
short_of_truth = 25

abbrev pub short_of_unit : ℕ
short_of_unit = 26

abbrev pub count→function : ℕ
count→function = 27

abbrev pub truth→function : ℕ
truth→function = 28

abbrev pub unit→function : ℕ
unit→function = 29

abbrev pub count→constant : ℕ
count→constant = 30

abbrev pub to_function : ℕ
to_function = 31

abbrev pub to_coroutine : ℕ
to_coroutine = 32

abbrev pub to_silent : ℕ
to_silent = 33

abbrev pub to_instance : ℕ
to_instance = 34

abbrev pub to_of_count : ℕ
to_of_count = 35

abbrev pub to_of_truth : ℕ
to_of_truth = 36

abbrev pub to_of_unit : ℕ
to_of_unit = 37

abbrev pub instance→count : ℕ
instance→count = 38

abbrev pub coroutine→coroutine : ℕ
coroutine→coroutine = 39

abbrev pub counter→counter : ℕ
counter→counter = 40

abbrev pub ⊥→⊥ : ℕ
⊥→⊥ = 41

abbrev later : List Row
later =
    function_type 0 0
    ∷ function_type 0 2
    ∷ function_type 2 2
    ∷ coroutine_type 0 2 0
    ∷ coroutine_type 0 1 0
    ∷ coroutine_type 0 3 0
    ∷ coroutine_type 0 3 2
    ∷ coroutine_type 2 2 0
    ∷ coroutine_type 0 1 2
    ∷ coroutine_type 2 1 2
    ∷ instance_type 2 0
    ∷ instance_type 3 0
    ∷ instance_type 2 2
    ∷ instance_type 3 2
    ∷ coroutine_type 2 unit→unit count→count
    ∷ coroutine_type 3 unit→unit count→count
    ∷ coroutine_type 0 unit→unit count→count
    ∷ coroutine_type 2 1 count→count
    ∷ coroutine_type 3 1 count→count
    ∷ coroutine_type 0 1 count→count
    ∷ coroutine_type 2 unit→unit 0
    ∷ coroutine_type 3 unit→unit 0
    ∷ coroutine_type 0 unit→unit 0
    ∷ function_type 2 count→count
    ∷ function_type 3 count→count
    ∷ function_type 0 count→count
    ∷ function_type 2 unit→count
    ∷ function_type 0 unit→unit
    ∷ function_type 0 unit⇝count⇝unit
    ∷ function_type 0 unit⇝⊥⇝unit
    ∷ function_type 0 truth⇝count
    ∷ function_type 0 of_count
    ∷ function_type 0 of_truth
    ∷ function_type 0 of_unit
    ∷ function_type count⇝unit 2
    ∷ function_type unit⇝count⇝unit unit⇝count⇝unit
    ∷ function_type count⇝count⇝unit count⇝count⇝unit
    ∷ function_type 1 1
    ∷ []

abbrev pub many_rows : Setting
many_rows = record { table = unit_type ∷ bottom_type ∷ base_type 0 ∷ base_type 1 ∷ later; set = counts }

many_rows_formed : WellFormed many_rows
many_rows_formed = well_formed counts (base_type 0 ∷ base_type 1 ∷ later) counts_lawful refl refl refl

-- the rows of two bindings
abbrev pub two_bindings : List ℕ
two_bindings = count⇝unit ∷ truth⇝count ∷ []

-- the table of the set of interlocks; and counts, with fewer bases than payloads are held of
abbrev pub conditions : Setting
conditions = record { table = unit_type ∷ bottom_type ∷ base_type 0 ∷ []; set = interlocks }

abbrev pub too_few_bases : Meaning
too_few_bases = record { bases = 1; holds = counts_holds; signature = counts_signature; result = counts_result }
