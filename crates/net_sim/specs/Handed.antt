-- Nothing is handed over in a receiving life: only what sends has a list that isn't empty.
use Rattle.std.specs.Prelude.{◌≡◌, Bool, true, List, [], ◌∷◌}
use Rattle.ncp_control.specs.Numbers.{is_receive_socket}
use Rattle.promise.specs.declared.life.Life.{Life}

-- there is one list for each life, and that of a receiving life is empty
abbrev pub AreUnhanded : List Life → List (List Bool) → Type 0
AreUnhanded [] handed = handed ≡ []
AreUnhanded (x ∷ lives) [] = ⊥
AreUnhanded (x ∷ lives) (h ∷ handed) = (is_receive_socket x.socket ≡ true → h ≡ []) × AreUnhanded lives handed
