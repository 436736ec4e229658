-- Nodes by the bucket of their function.
use Rattle.std.specs.Prelude.{◌≡◌, ℕ, ◌+◌, ◌*◌, ◌%◌, ◌<◌, ◌==◌, List, length, map, filter, Contains}
use Rattle.elf_model.specs.declared.func.Func.{Func}
use Rattle.idx_links.specs.parts.Nodes.{Node, Nodes, chain_of, ids}
use Rattle.func_desc.specs.declared.buckets.TheConstants.{MODULE_STRIDE}

pub record Listed : Type 0 where
  -- the address of each function, the newest first
  pub entries : List (Func × ℕ)
  -- for how many more there is room
  pub spare : ℕ

abbrev pub bucket_of : ℕ → Func → ℕ
bucket_of buckets f = (f.value + f.module * MODULE_STRIDE) % buckets

-- what the nodes hold
abbrev pub values : List (Node (Func × ℕ)) → List (Func × ℕ)
values order = map (λ node. node.value) order

-- the nodes of a bucket
abbrev pub in_bucket : ℕ → List (Node (Func × ℕ)) → List (Node (Func × ℕ))
in_bucket bucket order = filter (λ node. node.owner == bucket) order

pub record AreBucketed (buckets : ℕ) (nodes : Nodes (Func × ℕ)) : Type 0 where
  pub some : 0 < buckets
  pub count : length nodes.chains ≡ buckets
  -- a node is in the bucket of its function
  pub placed : (node : Node (Func × ℕ)) → Contains nodes.order node → node.owner ≡ bucket_of buckets node.value.0
  -- a bucket's nodes stand in its chain as in order
  pub chained : (bucket : ℕ) → chain_of nodes bucket ≡ ids (in_bucket bucket nodes.order)
