-- Replies whose bytes are constant.
use Rattle.std.proofs.Common.{◌≡◌, ◌++◌, ℕ, List, length, codes, sym, ap, ◌∙◌, arith}
use Rattle.std.specs.Fmt.{decimal}
use Rattle.std.proofs.lemmas.Fmt.{decimal-digits_of}
use Rattle.serde_json.specs.Data.{Data}
use Rattle.serde_json.specs.Written.{compact_text}
use Rattle.op_model.specs.Printed.{said_text, telling}
use Rattle.op_api.proofs.Heads.{fields_in_order}

thirty_one : decimal 31 ≡ codes "31"
thirty_one = decimal-digits_of 31 (omega arith) (omega arith)

thirty_three : decimal 33 ≡ codes "33"
thirty_three = decimal-digits_of 33 (omega arith) (omega arith)

pub size_31 : (body : List ℕ) → length body ≡ 31 → decimal (length body) ≡ codes "31"
size_31 body e = ap decimal e ∙ thirty_one

pub size_33 : (body : List ℕ) → length body ≡ 33 → decimal (length body) ≡ codes "33"
size_33 body e = ap decimal e ∙ thirty_three

-- a reply that says this status and this body
pub said_of : (status size body : List ℕ) (d : Data) → compact_text d ≡ body → decimal (length body) ≡ size
    → codes "HTTP/1.1 " ++ (status ++ (codes "\r\nconnection: close\r\ncontent-length: " ++ (size ++ (codes "\r\ncontent-type: application/json\r\n\r\n" ++ body)))) ≡ said_text (telling status d)
said_of status size body d is counted = rw (is, counted) (ap (λ (k : List ℕ). codes "HTTP/1.1 " ++ (status ++ (codes "\r\nconnection: close\r\n" ++ k)))
    (sym (fields_in_order (codes "content-length: ") size (codes "\r\ncontent-type: application/json\r\n") (codes "\r\n") body)))
