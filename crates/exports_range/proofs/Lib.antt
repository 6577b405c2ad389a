mod Told
mod Sets
mod Alone
