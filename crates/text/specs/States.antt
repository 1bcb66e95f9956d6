-- The states of the code as states of the automaton.
use Rattle.text.specs.declared.State as declared
use Rattle.text.specs.declared.State.TheVariants.{Start, One, Two, Three, AfterE0, AfterED, AfterF0, AfterF4, Wrong}
use Rattle.text.specs.Walk.{State, start, tail_1, tail_2, tail_3, after_e0, after_ed, after_f0, after_f4, failed}

-- The automaton's state for a state of the code
abbrev pub state_of : declared.State → State
state_of Start = start
state_of One = tail_1
state_of Two = tail_2
state_of Three = tail_3
state_of AfterE0 = after_e0
state_of AfterED = after_ed
state_of AfterF0 = after_f0
state_of AfterF4 = after_f4
state_of Wrong = failed
