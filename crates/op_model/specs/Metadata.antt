-- Metadata: JSON objects (RFC 8259) in their printed form, and the page that they name. What numbers they may have,
-- and what a page is, is this project's own.
use Rattle.std.specs.Prelude.{ℕ, List, Bool, ◌&&◌, nat_le, length, codes, if◌then◌else◌, Some, None}
use Rattle.std.specs.Option.{option_and_then, is_some}
use Rattle.std.specs.Str.{is_utf8, bytes_eq}
use Rattle.std.specs.declared.option.Option.{Option}
use Rattle.serde_json.specs.Data.{Data, object}
use Rattle.serde_json.specs.Find.{get, as_str}
use Rattle.serde_json.specs.Read.{read}
use Rattle.serde_json.specs.Written.{compact_text, has_float}

-- an object whose numbers are whole ones of 64 bits
abbrev pub if_plain_object : Data → Option Data
if_plain_object (object members) = if has_float (object members) then None else Some (object members)
if_plain_object _ = None

-- the text is the compact one of this value
abbrev pub if_printed : List ℕ → Data → Option Data
if_printed text value = if bytes_eq text (compact_text value) then Some value else None

-- the object that a text prints
abbrev pub printed_object : List ℕ → Option Data
printed_object text = if is_utf8 text then option_and_then (if_printed text) (option_and_then if_plain_object (read text)) else None

-- the longest metadata, in bytes of its printed form
abbrev pub metadata_limit : ℕ
metadata_limit = 1024

abbrev pub is_metadata : List ℕ → Bool
is_metadata text = nat_le (length text) metadata_limit && is_some (printed_object text)

-- a page's name has 1 to 64 bytes
abbrev pub is_page : List ℕ → Bool
is_page name = nat_le 1 (length name) && nat_le (length name) 64

abbrev pub if_page : List ℕ → Option (List ℕ)
if_page name = if is_page name then Some name else None

-- the text in the member `page` of an object, where it is a page's name
abbrev pub page_in : Data → Option (List ℕ)
page_in value = option_and_then if_page (option_and_then as_str (get (codes "page") value))

-- the page that metadata names
abbrev pub page_of : List ℕ → Option (List ℕ)
page_of text = option_and_then page_in (printed_object text)
