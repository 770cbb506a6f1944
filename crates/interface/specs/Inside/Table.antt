-- A table of the hosts that address octets name.
use Rattle.std.specs.Prelude.{◌≡◌, Bool, false, List, slice_index_or}
use Rattle.interface.specs.Host.{Host, IsAddress, address_octet, is_host}

-- the table says of each address octet whether it names one of these hosts
abbrev pub IsTable : List Host → List Bool → Type 0
IsTable hosts named = (h : Host) → IsAddress h → slice_index_or named (address_octet h) false ≡ is_host hosts h
