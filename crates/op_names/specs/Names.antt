-- What the texts of addresses, rows and origins name.
use Rattle.std.specs.Prelude.{ℕ, Bool, ◌&&◌, ◌||◌, ◌==◌, nat_eq, if◌then◌else◌, List, [], ◌∷◌, ◌++◌, length, take, drop, codes, Option, Some, None, option_and_then}
use Rattle.std.specs.List.{starts_with, position_or_len}
use Rattle.std.specs.Str.{bytes_eq}
use Rattle.url.specs.Parser.{parse_url}
use Rattle.op_names.specs.Forms.{is_slash, is_origin, is_path, names_no_port, origin_length}
use Rattle.op_names.specs.Ids.{id_in, id_text, kind_number}
use Rattle.op_names.specs.declared.Id.{Id}
use Rattle.op_names.specs.declared.Kind.{Kind}
use Rattle.op_names.specs.declared.Kind.TheVariants.{Incoming, Quote, Outgoing}
use Rattle.op_names.specs.declared.AddressName.{AddressName}
use Rattle.op_names.specs.declared.RowName.{RowName}

-- a text of a form
abbrev pub text_if : (List ℕ → Bool) → List ℕ → Option (List ℕ)
text_if form text = if form text then Some text else None

-- ---- addresses

-- the address at an origin and a path
abbrev pub address_at : List ℕ → List ℕ → Option AddressName
address_at origin path = if is_path path && is_origin origin then Some (record { origin = origin; path = path }) else None

-- an address URL: its origin ends before the first slash behind the scheme
abbrev pub address_in_url : List ℕ → Option AddressName
address_in_url text = address_at (take (origin_length text) text) (drop (origin_length text) text)

-- a pointer's empty path or `/` stands for this one
abbrev pub pointer_path : List ℕ → List ℕ
pointer_path path = if (length path == 0) || bytes_eq path (codes "/") then codes "/.well-known/pay" else path

abbrev pub pointer_origin : List ℕ → List ℕ
pointer_origin host = codes "https://" ++ host

-- the address at an origin that names no port
abbrev pub portless_at : List ℕ → List ℕ → Option AddressName
portless_at origin path = if names_no_port (parse_url None origin) then address_at origin path else None

-- a payment pointer behind its `$` (Payment Pointers, syntax and resolution)
abbrev pub address_in_pointer : List ℕ → Option AddressName
address_in_pointer text =
    portless_at (pointer_origin (take (position_or_len is_slash text) text)) (pointer_path (drop (position_or_len is_slash text) text))

-- the address that a text names: a payment pointer, or an address URL
abbrev pub address_in : List ℕ → Option AddressName
address_in [] = None
address_in (first ∷ rest) = if first == 36 then address_in_pointer rest else address_in_url (first ∷ rest)

abbrev pub address_url : AddressName → List ℕ
address_url name = name.origin ++ name.path

-- ---- rows

-- what stands between the origin and the identifier of a row
abbrev pub row_folder : Kind → Option (List ℕ)
row_folder Incoming = Some (codes "/incoming-payments/")
row_folder Quote = Some (codes "/quotes/")
row_folder Outgoing = Some (codes "/outgoing-payments/")
row_folder other = None

-- the identifier, if it is of this kind
abbrev pub of_kind : Kind → Id → Option Id
of_kind kind id = if kind_number id.kind == kind_number kind then Some id else None

-- the identifier of a kind behind its folder
abbrev pub id_behind : Kind → List ℕ → List ℕ → Option Id
id_behind kind path folder =
    if starts_with nat_eq path folder then option_and_then (of_kind kind) (id_in (drop (length folder) path)) else None

abbrev pub row_id : Kind → List ℕ → Option Id
row_id kind path = option_and_then (id_behind kind path) (row_folder kind)

abbrev pub row_at : List ℕ → Option Id → Option RowName
row_at origin None = None
row_at origin (Some id) = if is_origin origin then Some (record { origin = origin; id = id }) else None

-- the row of a kind that a text names: its origin ends before the first slash behind the scheme
abbrev pub row_in : Kind → List ℕ → Option RowName
row_in kind text = row_at (take (origin_length text) text) (row_id kind (drop (origin_length text) text))

abbrev pub row_url : RowName → List ℕ → List ℕ
row_url name folder = name.origin ++ folder ++ id_text name.id
