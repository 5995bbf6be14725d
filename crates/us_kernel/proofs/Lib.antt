pub mod KernelRight
